-- Records add up as lists do.
use Rattle.std.proofs.Common.{ℕ, ◌≡◌, ◌+◌, ◌*◌, List, [], ◌∷◌, ◌++◌, true, arith, ◌≤◌, length, sum_by, ◌^◌, Fits, subst, refl, sym, length-append}
use Rattle.std.proofs.lemmas.List.Sums.{sum_by-append}
use mir.Syntax.{w128}
use Rattle.std.specs.Prelude.{All}
use Rattle.std.proofs.lemmas.List.Elements.{All-cons}
use Rattle.hot_units.specs.Limits.{max_all_mass}
use Rattle.hot_units.specs.Values.{BodyValue, CellValue, cell_of}
use Rattle.hot_units.specs.Keys.{IsCell, covers, contains, corner, extent}
use Rattle.hot_units.specs.Bodies.{IsBody, mass_of_body}
use Rattle.hot_model.specs.Facts.{IsCellRecord}
use Rattle.hot_model.specs.Trees.{record_of}
use Rattle.hot_model.proofs.Corners.{IsWithin, x_within, y_within, z_within, list-facts, sx-in-cube, sy-in-cube, sz-in-cube, wider-facts, facts-plus}
use Rattle.hot_model.proofs.Orders.{same_cell}
use Rattle.moments.specs.Sums.{joined, RecordsJoin}

-- two records of lists, added up
joined_lists : (c d : ℕ) (xs ys : List BodyValue) → length xs + length ys ≡ length (xs ++ ys) → ((f : BodyValue → ℕ) → sum_by f xs + sum_by f ys ≡ sum_by f (xs ++ ys)) → joined (record_of c xs) (record_of d ys) ≡ record_of c (xs ++ ys)
joined_lists c d xs ys n s =
    same_cell _ _ refl n (s mass_of_body)
    (s (λ b. b.mass * b.x)) (s (λ b. b.mass * b.y)) (s (λ b. b.mass * b.z))
    (s (λ b. b.mass * b.x * b.x)) (s (λ b. b.mass * b.y * b.y)) (s (λ b. b.mass * b.z * b.z))
    (s (λ b. b.mass * b.x * b.y)) (s (λ b. b.mass * b.x * b.z)) (s (λ b. b.mass * b.y * b.z))

-- this holds of every two lists
pub records_join : RecordsJoin
records_join c d xs ys = joined_lists c d xs ys (sym (length-append xs ys)) (λ f. sym (sum_by-append f xs ys))

-- a record with the numbers of one in its cell added is a record
pub joined-facts : (a b : CellValue) → IsCellRecord a → IsCellRecord b → covers a.key b.key ≡ true → a.mass + b.mass ≤ max_all_mass → IsCellRecord (joined a b)
joined-facts a b f g e light =
    facts-plus a (cell_of a.key b.count b.mass b.sx b.sy b.sz b.sxx b.syy b.szz b.sxy b.sxz b.syz) f
    (wider-facts a.key b.key b.count b.mass b.sx b.sy b.sz b.sxx b.syy b.szz b.sxy b.sxz b.syz f.cell e g) refl light

-- the record of one body of the cell
pub body-facts : (c : ℕ) (b : BodyValue) → IsCell c → IsBody b → contains c b ≡ true → IsCellRecord (record_of c (b ∷ []))
body-facts c b i s e =
    list-facts c (b ∷ []) i (alone IsBody b s) (omega (arith, s.light))
    (alone (λ o. IsWithin (corner c).x (extent c) o.x) b (x_within c b i s.x_in e))
    (alone (λ o. IsWithin (corner c).y (extent c) o.y) b (y_within c b i s.y_in e))
    (alone (λ o. IsWithin (corner c).z (extent c) o.z) b (z_within c b i s.z_in e))
  where
    alone : (P : BodyValue → Type 0) (b : BodyValue) → P b → All P (b ∷ [])
    alone P b p = All-cons P b [] p (λ k d m. absurd (omega (arith, m)))

-- the record of no body
pub none-facts : (c : ℕ) → IsCell c → IsCellRecord (record_of c [])
none-facts c i =
    list-facts c [] i (none IsBody) (omega arith) (none (λ o. IsWithin (corner c).x (extent c) o.x)) (none (λ o. IsWithin (corner c).y (extent c) o.y)) (none (λ o. IsWithin (corner c).z (extent c) o.z))
  where
    none : (P : BodyValue → Type 0) → All P []
    none P = λ k d m. absurd (omega (arith, m))

-- the same by the numbers that code has
pub one-facts : (c : ℕ) (b : BodyValue) (n m x y z : ℕ) → n ≡ b.mass → m ≡ b.mass → x ≡ b.x → y ≡ b.y → z ≡ b.z → IsCell c → IsBody b → contains c b ≡ true → IsCellRecord (cell_of c 1 n (m * x) (m * y) (m * z) (m * x * x) (m * y * y) (m * z * z) (m * x * y) (m * x * z) (m * y * z))
one-facts c b n m x y z e f g h k i s t =
    let r : record_of c (b ∷ []) ≡ cell_of c 1 b.mass (b.mass * b.x) (b.mass * b.y) (b.mass * b.z) (b.mass * b.x * b.x) (b.mass * b.y * b.y) (b.mass * b.z * b.z) (b.mass * b.x * b.y) (b.mass * b.x * b.z) (b.mass * b.y * b.z) =
    same_cell _ _ refl refl (omega arith) (omega arith) (omega arith) (omega arith) (omega arith) (omega arith) (omega arith) (omega arith) (omega arith) (omega arith) in
    rw (e, f, g, h, k) (subst (λ (v : CellValue). IsCellRecord v) r (body-facts c b i s t))

-- two sums of this size fit their type together
pub fits-two : (a b : ℕ) → a ≤ 2 ^ 98 → b ≤ 2 ^ 98 → Fits w128 (a + b)
fits-two a b h k = record { fits = omega arith }

-- a sum for x is of this size
pub sx-small : (c : CellValue) → IsCellRecord c → c.sx ≤ 2 ^ 98
sx-small c f = omega (arith, sx-in-cube c f, f.light)

-- one for y
pub sy-small : (c : CellValue) → IsCellRecord c → c.sy ≤ 2 ^ 98
sy-small c f = omega (arith, sy-in-cube c f, f.light)

-- one for z
pub sz-small : (c : CellValue) → IsCellRecord c → c.sz ≤ 2 ^ 98
sz-small c f = omega (arith, sz-in-cube c f, f.light)
