-- The laws of letters.
use Rattle.std.specs.Prelude.{ℕ, ◌≡◌, List}
use Rattle.cell_mail.specs.declared.content.Content.{Content}
use Rattle.cell_mail.specs.Grammar.{Spells}

-- a content has at most one spelling
abbrev pub OneSpelling : Type 0
OneSpelling = (one other : List ℕ) (c : Content) → Spells one c → Spells other c → one ≡ other

-- bytes spell at most one content
abbrev pub OneContent : Type 0
OneContent = (bytes : List ℕ) (c d : Content) → Spells bytes c → Spells bytes d → c ≡ d
