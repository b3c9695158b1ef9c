-- What contracts see of letters.
use Rattle.std.specs.Prelude.{ℕ, ◌≡◌, ◌<◌, List, [], Option, Some, None}
use Rattle.hot_units.specs.Limits.{max_ranks}
use Rattle.cell_mail.specs.declared.content.Kind.{Kind}
use Rattle.cell_mail.specs.declared.content.Kind.TheVariants as kinds
use Rattle.cell_mail.specs.declared.content.Content.{Content}
use Rattle.cell_mail.specs.declared.content.Content.TheVariants as content
use Rattle.cell_mail.specs.Spelling.{keys_of}
use Rattle.cell_mail.specs.Grammar.{Spells}
use Rattle.cell_mail.specs.Reading.{reading}

-- a letter: its sender, its receiver and its content
pub record LetterValue : Type 0 where
  pub from : ℕ
  pub to : ℕ
  pub content : Content

-- the kind of a content
abbrev pub kind_of : Content → Kind
kind_of (content.Branches cs) = kinds.Branches
kind_of (content.Asks ks) = kinds.Asks
kind_of (content.Answers xs) = kinds.Answers

-- two ranks that differ
pub record AreRanks (from to : ℕ) : Type 0 where
  pub from_in : from < max_ranks
  pub to_in : to < max_ranks
  pub differ : from ≡ to → ⊥

-- a content, or the empty asks
abbrev pub or_none : Option Content → Content
or_none (Some c) = c
or_none None = content.Asks []

-- the content that the bytes of a letter spell
unfoldable pub content_of : List ℕ → Content
content_of bytes = or_none (reading bytes)

-- what every letter keeps: its ranks, and the kind and the keys of the content that its bytes spell
pub record IsLetter (from to : ℕ) (kind : Kind) (keys bytes : List ℕ) : Type 0 where
  pub ranks : AreRanks from to
  pub spells : Spells bytes (content_of bytes)
  pub kind_is : kind ≡ kind_of (content_of bytes)
  pub keys_are : keys ≡ keys_of (content_of bytes)
