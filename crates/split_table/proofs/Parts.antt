-- What the piece of a rank keeps of the whole set.
use Rattle.std.proofs.Common.{ℕ, suc, ◌≡◌, ◌+◌, ◌<◌, ◌≤◌, eqb, not, List, [], ◌∷◌, ◌++◌, length, get_or, map, Option, Some, None, refl, ap, ◌∙◌, subst, sym, arith, add-one}
use Rattle.std.specs.Option.{IfSome}
use Rattle.std.proofs.lemmas.List.{length-map, map-append}
use Rattle.std.proofs.lemmas.List.Filters.{length-filter_both}
use Rattle.hot_units.specs.Limits.{max_all_mass}
use Rattle.hot_units.specs.Values.{BodyValue, CellValue}
use Rattle.hot_units.specs.Numbers.{numbers_below}
use Rattle.hot_units.specs.Keys.{HasLevel, key_of_body}
use Rattle.hot_units.specs.Bodies.{mass_of, mass_of_body}
use Rattle.hot_units.proofs.Bodies.{sum_filter_le}
use Rattle.hot_model.specs.Trees.{cell_record}
use Rattle.hot_model.proofs.Fronts.{body_level}
use Rattle.rank_model.specs.World.{World, IsGood, rank_of, piece, left_of, right_of}
use Rattle.rank_model.specs.Branches.{branches, branch_records}
use Rattle.rank_model.specs.Homes.{home_branches}
use Rattle.rank_model.proofs.Homes.{left_body, right_body, home-branches}
use Rattle.morton_key.specs.Ranges.{IsBodyKey}
use Rattle.key_order.specs.Ordered.{OrderedValue, IsOrderedSet}
use Rattle.work_split.specs.Values.{PiecesValue}
use Rattle.work_split.specs.Splits.{ranks_of, weight_of, world_of}
use Rattle.work_split.proofs.Cuts.{pieces_make_a_world}
use Rattle.branch_merge.proofs.Lists.{item-at}
use Rattle.split_table.specs.declared.share.Share.{Share}
use Rattle.split_table.specs.Table.{share_of}
use Rattle.split_table.specs.Steps.{AreLists}

-- a set that is split is a good world
pub split_is_good : (set : OrderedValue) (ranks : ℕ) → IsOrderedSet set → 1 ≤ ranks → IsGood (world_of set ranks)
split_is_good set ranks h one = pieces_make_a_world set ranks 1 h one

-- a piece has no more bodies than there are
pub piece_short : (w : World) (q : ℕ) → length (piece w q) ≤ length w.bodies
piece_short w q =
    let both = length-filter_both (λ b. eqb (rank_of w b) q) (λ b. not (eqb (rank_of w b) q)) (λ b. refl) w.bodies in
    omega (arith, both)

-- nor more mass
pub piece_light : (w : World) (q : ℕ) → IsGood w → mass_of (piece w q) ≤ max_all_mass
piece_light w q g =
    let l = sum_filter_le mass_of_body (λ b. eqb (rank_of w b) q) w.bodies in
    omega (arith, l, g.light)

-- the neighbours of a rank are keys of bodies
key_is : (k : ℕ) (b : BodyValue) → k ≡ key_of_body b → IsBodyKey k
key_is k b e = subst (λ (z : ℕ). HasLevel z 21) (sym e) (body_level b)

-- the left neighbour of a rank, where there is one, is a body key
pub left_is_key : (w : World) (q : ℕ) (left : Option ℕ) → left ≡ left_of w q → IfSome left IsBodyKey
left_is_key w q None e = tt
left_is_key w q (Some k) e = let b = left_body w q k (sym e) in key_is k b.0 b.3

-- the right neighbour of a rank, where there is one, is a body key
pub right_is_key : (w : World) (q : ℕ) (right : Option ℕ) → right ≡ right_of w q → IfSome right IsBodyKey
right_is_key w q None e = tt
right_is_key w q (Some k) e = let b = right_body w q k (sym e) in key_is k b.0 b.3

-- the branches of a piece are those of its rank
pub branches-of_piece : (w : World) (q : ℕ) (bodies : List BodyValue) (left right : Option ℕ) → IsGood w → bodies ≡ piece w q → left ≡ left_of w q → right ≡ right_of w q → home_branches bodies left right ≡ branch_records w q
branches-of_piece w q bodies left right g e l r = rw (e, l, r) (home-branches w q g)

-- the items of one rank more
items-suc : {X : Type 0} (f : ℕ → X) (n : ℕ) → map f (numbers_below (suc n)) ≡ map f (numbers_below n) ++ f n ∷ []
unfolding numbers_below
items-suc f n = map-append f (numbers_below n) (n ∷ [])

-- the items of the ranks so far with that of the next rank are those of one rank more
pub items-next : {X : Type 0} (f : ℕ → X) (n : ℕ) (x : X) (now new : List X) → new ≡ now ++ x ∷ [] → now ≡ map f (numbers_below n) → x ≡ f n → new ≡ map f (numbers_below (n + 1))
items-next {X = X} f n x now new added before at =
    added
    ∙ (ap (λ (xs : List X). xs ++ x ∷ []) before
    ∙ (ap (λ (y : X). map f (numbers_below n) ++ y ∷ []) at
    ∙ sym (ap (λ (k : ℕ). map f (numbers_below k)) (add-one n) ∙ items-suc f n)))

-- none yet
pub items-none : {X : Type 0} (f : ℕ → X) → map f (numbers_below 0) ≡ []
unfolding numbers_below
items-none f = refl

-- the four numbers of a share
abbrev pub share : ℕ → ℕ → ℕ → ℕ → Share
share q bodies weight own = record { rank = q; bodies = bodies; weight = weight; branches = own }

-- what a rank has, by its bodies, their weight and the length of its branch list
pub share-is : (set : OrderedValue) (ranks q : ℕ) (pieces : PiecesValue) (bodies : List BodyValue) (weight own : ℕ) (lists : List (List CellValue)) (list : List CellValue) → q < ranks → ranks_of pieces ≡ ranks → bodies ≡ piece (world_of set ranks) q → weight ≡ weight_of set (ranks_of pieces) q → AreLists (world_of set ranks) lists → list ≡ get_or lists q list → own ≡ length list
    → share q (length bodies) weight own ≡ share_of set ranks q
share-is set ranks q pieces bodies weight own lists list h n b v l at e =
    let w = world_of set ranks in
    let records : list ≡ branch_records w q = at ∙ (ap (λ (ls : List (List CellValue)). get_or ls q list) l.lists_are ∙ item-at (branch_records w) list ranks q h) in
    let branches_too : own ≡ length (branches w q) = e ∙ (ap length records ∙ length-map (branches w q) (cell_record set.bodies)) in
    let weight_too : weight ≡ weight_of set ranks q = v ∙ ap (λ (m : ℕ). weight_of set m q) n in
    ap (λ (xs : List BodyValue). share q (length xs) weight own) b
    ∙ (ap (λ (m : ℕ). share q (length (piece w q)) m own) weight_too
    ∙ ap (λ (m : ℕ). share q (length (piece w q)) (weight_of set ranks q) m) branches_too)
