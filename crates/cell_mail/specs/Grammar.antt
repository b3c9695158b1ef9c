-- The grammar of letters: which contents have a spelling, and which bytes spell them.
use Rattle.std.specs.Prelude.{ℕ, ◌≡◌, ◌<◌, ◌≤◌, ◌^◌, Bool, true, not, ltb, leb, eqb, ◌&&◌, ◌||◌, List, [], ◌∷◌, length, map, Option, Some, None}
use Rattle.std.specs.List.{AllByRecursion, list_all}
use Rattle.hot_units.specs.Limits.{fine_bits, max_level, max_bodies, max_body_mass, max_leaf}
use Rattle.hot_units.specs.Values.{BodyValue, CellValue}
use Rattle.hot_units.specs.Keys.{IsCell, covers, contains, level, parent}
use Rattle.hot_units.specs.Order.{before}
use Rattle.hot_model.specs.Facts.{IsCellRecord}
use Rattle.hot_model.specs.declared.answer.Answer.{Answer}
use Rattle.hot_model.specs.declared.answer.Answer.TheVariants.{Children, Bodies}
use Rattle.hot_model.specs.declared.answer.Answered.{Answered}
use Rattle.cell_mail.specs.declared.content.Content.{Content}
use Rattle.cell_mail.specs.declared.content.Content.TheVariants as content
use Rattle.cell_mail.specs.Sizes.{count_end, max_children}
use Rattle.cell_mail.specs.Spelling.{spelling}

-- the numbers ascend strictly, from above k
unfoldable pub rise_above : ℕ → List ℕ → Bool
rise_above k [] = true
rise_above k (x ∷ xs) = ltb k x && rise_above x xs

-- the keys ascend strictly
abbrev pub ascend : List ℕ → Bool
ascend ks = rise_above 0 ks

-- the body stands behind the one before it, if there is one
abbrev pub follows : Option BodyValue → BodyValue → Bool
follows None b = true
follows (Some a) b = before a b

-- the bodies ascend strictly by key and then row, from behind the first one
unfoldable pub bodies_from : Option BodyValue → List BodyValue → Bool
bodies_from a [] = true
bodies_from a (b ∷ bs) = follows a b && bodies_from (Some b) bs

-- the bodies ascend strictly by key and then row
abbrev pub bodies_ascend : List BodyValue → Bool
bodies_ascend bs = bodies_from None bs

-- the cell c does not properly contain the cell k
abbrev pub is_clear : ℕ → ℕ → Bool
is_clear c k = eqb c k || not (covers c k)

-- no cell of the list contains another one
abbrev pub apart : List ℕ → Bool
apart ks = list_all (λ c. list_all (is_clear c) ks) ks

-- the record has the cell k as parent
abbrev pub has_parent : ℕ → CellValue → Bool
has_parent k c = eqb (parent c.key) k

-- so many bodies may stand in an answer for the cell k
abbrev pub fits_leaf : ℕ → ℕ → Bool
fits_leaf k n = leb n max_leaf || eqb (level k) max_level

-- a record that may be sent
pub record IsRecord (c : CellValue) : Type 0 where
  pub facts : IsCellRecord c
  pub some : 1 ≤ c.count
  pub few : c.count ≤ max_bodies

-- a body that may be sent
pub record IsSent (b : BodyValue) : Type 0 where
  pub x_in : b.x < 2 ^ fine_bits
  pub y_in : b.y < 2 ^ fine_bits
  pub z_in : b.z < 2 ^ fine_bits
  pub weighs : 1 ≤ b.mass
  pub light : b.mass ≤ max_body_mass
  pub row_in : b.row < max_bodies

-- a cell below the root
abbrev pub IsBelowRoot : ℕ → Type 0
IsBelowRoot k = IsCell k × (8 ≤ k)

-- the records that an answer for the cell k may have
pub record AreChildren (k : ℕ) (cs : List CellValue) : Type 0 where
  pub some : 1 ≤ length cs
  pub few : length cs ≤ max_children
  pub records : AllByRecursion IsRecord cs
  pub ascending : ascend (map (λ c. c.key) cs) ≡ true
  pub of_cell : list_all (has_parent k) cs ≡ true

-- the bodies that an answer for the cell k may have
pub record AreBodies (k : ℕ) (bs : List BodyValue) : Type 0 where
  pub some : 1 ≤ length bs
  pub few : length bs < count_end
  pub leaf : fits_leaf k (length bs) ≡ true
  pub bodies : AllByRecursion IsSent bs
  pub ascending : bodies_ascend bs ≡ true
  pub of_cell : list_all (contains k) bs ≡ true

-- an answer for the cell k that may be sent
abbrev pub IsAnswer : ℕ → Answer → Type 0
IsAnswer k (Children cs) = AreChildren k cs
IsAnswer k (Bodies bs) = AreBodies k bs

-- an item of an answers letter that may be sent
pub record IsItem (a : Answered) : Type 0 where
  pub cell : IsBelowRoot a.key
  pub answer : IsAnswer a.key a.answer

-- the records of a branches letter
pub record AreBranches (cs : List CellValue) : Type 0 where
  pub few : length cs ≤ max_bodies
  pub records : AllByRecursion IsRecord cs
  pub ascending : ascend (map (λ c. c.key) cs) ≡ true
  pub apart : apart (map (λ c. c.key) cs) ≡ true

-- the keys of an asks letter
pub record AreAsks (ks : List ℕ) : Type 0 where
  pub some : 1 ≤ length ks
  pub few : length ks < count_end
  pub cells : AllByRecursion IsBelowRoot ks
  pub ascending : ascend ks ≡ true

-- the items of an answers letter
pub record AreAnswers (xs : List Answered) : Type 0 where
  pub some : 1 ≤ length xs
  pub few : length xs < count_end
  pub items : AllByRecursion IsItem xs
  pub ascending : ascend (map (λ a. a.key) xs) ≡ true

-- a content that has a spelling
abbrev pub HasSpelling : Content → Type 0
HasSpelling (content.Branches cs) = AreBranches cs
HasSpelling (content.Asks ks) = AreAsks ks
HasSpelling (content.Answers xs) = AreAnswers xs

-- the bytes are a letter with this content
pub record Spells (bytes : List ℕ) (c : Content) : Type 0 where
  pub good : HasSpelling c
  pub spelled : bytes ≡ spelling c
