-- What is opened, asked for and outermost at a cell of its own level, case by case.
use Rattle.std.proofs.Common.{ℕ, zero, suc, ◌≡◌, ◌-◌, ◌<◌, ◌≤◌, Bool, true, false, List, [], ◌∷◌, ◌++◌, flat_map, refl, ap, ◌∙◌, arith}
use Rattle.hot_units.specs.Values.{CellValue}
use Rattle.hot_units.specs.Keys.{IsCell, height, child, digits}
use Rattle.hot_units.proofs.Members.{have_digits, flat_same}
use Rattle.hot_model.specs.Trees.{is_empty, cell_record, opened_in, opened_of}
use Rattle.hot_model.proofs.Fronts.{height_child}
use Rattle.hot_model.proofs.Heights.{last_at, last_at_leaf, has_children, height_is}
use Rattle.rank_model.specs.World.{World, bodies_in, is_leaf}
use Rattle.rank_model.specs.Needs.{asks_of, outer_of, itself, asks_in, is_away, outer_in}
use Rattle.rank_model.proofs.Asks.{is_last, opened-last, opened-parted, asks-last, asks-parted, outer-away, outer-parted}

-- in a world the test of a leaf by the height is the same
last_same : (w : World) (n c : ℕ) → is_last w n c ≡ last_at w.leaf w.bodies n c
last_same w zero c = refl
last_same w (suc n) c = refl

-- an opened leaf with bodies: it alone is opened
pub opened_of_leaf : (opens : CellValue → Bool) (w : World) (c : ℕ) → IsCell c → is_empty (bodies_in w c) ≡ false → opens (cell_record w.bodies c) ≡ true → is_leaf w c ≡ true → opened_of opens w.leaf w.bodies c ≡ c ∷ []
opened_of_leaf opens w c i e o l = opened-last opens w (height c) c e o (last_same w (height c) c ∙ (last_at_leaf w.leaf w.bodies c i ∙ l))

-- an opened cell with bodies that is no leaf: itself, then what is opened in its children
pub opened_of_parted : (opens : CellValue → Bool) (w : World) (c : ℕ) → IsCell c → is_empty (bodies_in w c) ≡ false → opens (cell_record w.bodies c) ≡ true → is_leaf w c ≡ false → opened_of opens w.leaf w.bodies c ≡ c ∷ flat_map (λ d. opened_of opens w.leaf w.bodies (child c d)) digits
opened_of_parted opens w c i e o l =
    let s = has_children w.leaf w.bodies c i l in
    ap (λ (n : ℕ). opened_in opens w.leaf w.bodies n c) s.high
    ∙ (opened-parted opens w s.below c e o s.not_last
    ∙ ap (λ (ks : List ℕ). c ∷ ks) (flat_same (λ d. opened_in opens w.leaf w.bodies s.below (child c d)) (λ d. opened_of opens w.leaf w.bodies (child c d)) digits (λ d m. ap (λ (n : ℕ). opened_in opens w.leaf w.bodies n (child c d)) (s.child_height d (have_digits d m)))))

-- an opened leaf with bodies: its outermost cells of other ranks are asked for
pub asks_of_leaf : (opens : CellValue → Bool) (w : World) (me c : ℕ) → IsCell c → is_empty (bodies_in w c) ≡ false → opens (cell_record w.bodies c) ≡ true → is_leaf w c ≡ true → asks_of opens w me c ≡ outer_of w me c
asks_of_leaf opens w me c i e o l = asks-last opens w me (height c) c e o (last_same w (height c) c ∙ (last_at_leaf w.leaf w.bodies c i ∙ l))

-- an opened cell with bodies that is no leaf: itself if it is away, then its children's asks
pub asks_of_parted : (opens : CellValue → Bool) (w : World) (me c : ℕ) → IsCell c → is_empty (bodies_in w c) ≡ false → opens (cell_record w.bodies c) ≡ true → is_leaf w c ≡ false → asks_of opens w me c ≡ itself w me c ++ flat_map (λ d. asks_of opens w me (child c d)) digits
asks_of_parted opens w me c i e o l =
    let s = has_children w.leaf w.bodies c i l in
    ap (λ (n : ℕ). asks_in opens w me n c) s.high
    ∙ (asks-parted opens w me s.below c e o s.not_last
    ∙ ap (λ (ks : List ℕ). itself w me c ++ ks) (flat_same (λ d. asks_in opens w me s.below (child c d)) (λ d. asks_of opens w me (child c d)) digits (λ d m. ap (λ (n : ℕ). asks_in opens w me n (child c d)) (s.child_height d (have_digits d m)))))

-- a cell with bodies, all of one other rank, is the one outermost cell in itself
pub outer_of_away : (w : World) (me c : ℕ) → is_empty (bodies_in w c) ≡ false → is_away w me c ≡ true → outer_of w me c ≡ c ∷ []
outer_of_away w me c e a = outer-away w me (height c) c e a

-- a cell that is not of another rank and above the deepest level
pub outer_of_parted : (w : World) (me c : ℕ) → IsCell c → 0 < height c → is_empty (bodies_in w c) ≡ false → is_away w me c ≡ false → outer_of w me c ≡ flat_map (λ d. outer_of w me (child c d)) digits
outer_of_parted w me c i h e a =
    let n = height c - 1 in
    let s : height c ≡ suc n = omega (arith, h) in
    let low : suc i.0 ≤ 21 = (let f = height_is c i.0 i.1 i.2 in omega (arith, f, h, i.1)) in
    ap (λ (k : ℕ). outer_in w me k c) s
    ∙ (outer-parted w me n c e a
    ∙ flat_same (λ d. outer_in w me n (child c d)) (λ d. outer_of w me (child c d)) digits (λ d m. ap (λ (k : ℕ). outer_in w me k (child c d)) (let g = height_child c d i.0 low i.2 (have_digits d m) in omega (arith, s, g))))
