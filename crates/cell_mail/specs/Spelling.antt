-- The one spelling of each content. All numbers stand with their least byte first.
use Rattle.std.specs.Prelude.{ℕ, zero, suc, ◌/◌, ◌%◌, List, [], ◌∷◌, ◌++◌, length, map}
use Rattle.std.specs.List.{flat_map}
use Rattle.hot_units.specs.Values.{BodyValue, CellValue}
use Rattle.hot_model.specs.declared.answer.Answer.{Answer}
use Rattle.hot_model.specs.declared.answer.Answer.TheVariants.{Children, Bodies}
use Rattle.hot_model.specs.declared.answer.Answered.{Answered}
use Rattle.cell_mail.specs.declared.content.Content.{Content}
use Rattle.cell_mail.specs.declared.content.Content.TheVariants as content
use Rattle.cell_mail.specs.Sizes.{version, mark_size, count_size, key_size, mass_size, sum_size, field_size, branches_kind, asks_kind, answers_kind, children_tag, bodies_tag}

-- the k low bytes of n, the least of them first
unfoldable pub number : ℕ → ℕ → List ℕ
number zero n = []
number (suc k) n = n % 256 ∷ number k (n / 256)

-- the nine sums of a record, in the order in which they are sent
abbrev pub sums_of : CellValue → List ℕ
sums_of c = c.sx ∷ c.sy ∷ c.sz ∷ c.sxx ∷ c.syy ∷ c.szz ∷ c.sxy ∷ c.sxz ∷ c.syz ∷ []

-- a record: key, count, mass and the nine sums
abbrev pub record_bytes : CellValue → List ℕ
record_bytes c = number key_size c.key ++ (number count_size c.count ++ (number mass_size c.mass ++ flat_map (number sum_size) (sums_of c)))

-- a body: place, mass and row
abbrev pub body_bytes : BodyValue → List ℕ
body_bytes b = number field_size b.x ++ (number field_size b.y ++ (number field_size b.z ++ (number field_size b.mass ++ number field_size b.row)))

-- a key
abbrev pub key_bytes : ℕ → List ℕ
key_bytes k = number key_size k

-- the number of items, and the items
abbrev pub counted : {X : Type 0} → (X → List ℕ) → List X → List ℕ
counted item xs = number count_size (length xs) ++ flat_map item xs

-- the tag of an answer
abbrev pub tag_of : Answer → ℕ
tag_of (Children cs) = children_tag
tag_of (Bodies bs) = bodies_tag

-- the records or bodies of an answer, behind their number
abbrev pub entries : Answer → List ℕ
entries (Children cs) = counted record_bytes cs
entries (Bodies bs) = counted body_bytes bs

-- an item of an answers letter: key, tag and entries
abbrev pub item_bytes : Answered → List ℕ
item_bytes a = number key_size a.key ++ (number mark_size (tag_of a.answer) ++ entries a.answer)

-- the number that stands for the kind of a content
abbrev pub kind_number : Content → ℕ
kind_number (content.Branches cs) = branches_kind
kind_number (content.Asks ks) = asks_kind
kind_number (content.Answers xs) = answers_kind

-- the items of a content, behind their number
abbrev pub items : Content → List ℕ
items (content.Branches cs) = counted record_bytes cs
items (content.Asks ks) = counted key_bytes ks
items (content.Answers xs) = counted item_bytes xs

-- the version, the kind and the items
abbrev pub spelling : Content → List ℕ
spelling c = number mark_size version ++ (number mark_size (kind_number c) ++ items c)

-- the keys of the items, in their order
abbrev pub keys_of : Content → List ℕ
keys_of (content.Branches cs) = map (λ c. c.key) cs
keys_of (content.Asks ks) = ks
keys_of (content.Answers xs) = map (λ a. a.key) xs
