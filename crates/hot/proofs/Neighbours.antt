-- What a walk over ranks gives of a run by a radius.
use Rattle.std.proofs.Common.{ℕ, ◌≡◌, Bool, List, [], ◌∷◌, ◌++◌, length, map, filter, eqb, cond, ap, sym, ◌∙◌, subst}
use Rattle.std.proofs.lemmas.List.{length-map, map-append}
use Rattle.std.proofs.lemmas.Simd.{map-map}
use Rattle.hot_units.specs.Values.{BodyValue}
use Rattle.hot_units.specs.Order.{ordered}
use Rattle.hot_units.specs.Bodies.{mass_of, RowsCount}
use Rattle.hot_units.proofs.Members.{map_same}
use Rattle.hot_units.proofs.Sorts.{sum_map}
use Rattle.hot_model.proofs.Orders.{sum-ordered}
use Rattle.near_walk.specs.Near.{NearValue, near_value, near_adds, near_nothing, near_opens, near_rows, is_neighbour}
use Rattle.near_walk.proofs.Insertions.{same_times}
use Rattle.near_walk.proofs.Folds.{fold-is-filter}
use Rattle.body_set.specs.Sets.{SetValue, in_key_order}
use Rattle.key_order.specs.Ordered.{OrderedValue, IsOrderedSet}
use Rattle.defer_walk.specs.Standing.{VisitOf, meaning, fold_in}
use Rattle.rank_set.specs.Places.{ArePlaced}
use Rattle.hot.specs.Runs.{RunValue}
use Rattle.hot.specs.Texts.{neighbours_of}
use Rattle.hot.specs.Prepared.{world_by, near_of}
use Rattle.hot.proofs.FileBodies.{placed_back}

-- what the visit of a run by a radius means
abbrev pub meaning_near : ℕ → VisitOf NearValue
meaning_near radius = meaning (λ (r : ℕ). near_nothing) (λ (r : ℕ) b a t. near_adds r b a t) (λ (r : ℕ) b c. near_opens r b c) (λ (a : NearValue). a.seen) radius

-- the filter over the ordered list has the rows of that over the list
near-ordered : (radius : ℕ) (xs : List BodyValue) (b : BodyValue) → near_rows radius (ordered xs) b ≡ near_rows radius xs b
near-ordered radius xs b =
    let row : BodyValue → ℕ = λ o. o.row in
    let p : BodyValue → Bool = is_neighbour radius b in
    same_times (map row (filter p (ordered xs))) (map row (filter p xs)) (λ r.
    sum_map (λ n. cond (eqb n r) 1 0) row (filter p (ordered xs))
    ∙ sum-ordered p (λ o. cond (eqb (row o) r) 1 0) xs
    ∙ sym (sum_map (λ n. cond (eqb n r) 1 0) row (filter p xs)))

-- the rows that a walk gathered, put into the order of the rows of bodies
pub near_placed : (radius : ℕ) (run : RunValue) (set : SetValue) (o : OrderedValue) (accs placed : List NearValue) → o ≡ in_key_order set → IsOrderedSet o → RowsCount set.bodies
    → accs ≡ map (fold_in (near_of radius) (world_by run o)) o.bodies → ArePlaced o.bodies accs placed → map (λ (a : NearValue). a.rows) placed ≡ neighbours_of radius set.bodies
near_placed radius run set o accs placed e sound rows found are =
    let bodies : o.bodies ≡ ordered set.bodies = ap (λ (x : OrderedValue). x.bodies) e in
    let acc : BodyValue → NearValue = λ b. near_value (mass_of (ordered set.bodies)) (near_rows radius (ordered set.bodies) b) in
    let folds : accs ≡ map (λ b. near_value (mass_of o.bodies) (near_rows radius o.bodies b)) o.bodies =
    found ∙ map_same _ _ o.bodies (λ b h. fold-is-filter radius run.leaf o.bodies b sound.sound) in
    let all : accs ≡ map acc (ordered set.bodies) =
    subst (λ (xs : List BodyValue). accs ≡ map (λ b. near_value (mass_of xs) (near_rows radius xs b)) xs) bodies folds in
    let back : placed ≡ map acc set.bodies =
    placed_back acc set.bodies accs placed rows all (subst (λ (xs : List BodyValue). ArePlaced xs accs placed) bodies are) in
    ap (map (λ (a : NearValue). a.rows)) back
    ∙ map-map (λ (a : NearValue). a.rows) acc set.bodies
    ∙ map_same _ _ set.bodies (λ b h. near-ordered radius set.bodies b)

-- there are as many lists as bodies
pub lists_long : {X : Type 0} (rows : X → List ℕ) (lists : List X) (radius : ℕ) (bodies : List BodyValue) → map rows lists ≡ neighbours_of radius bodies → length lists ≡ length bodies
lists_long rows lists radius bodies e = sym (length-map lists rows) ∙ ap (λ l. length l) e ∙ length-map bodies (near_rows radius bodies)

-- one more list at the end
pub one_more : {X Y : Type 0} (rows : X → List ℕ) (of : Y → List ℕ) (lists : List X) (accs : List Y) (x : X) (y : Y) → map rows lists ≡ map of accs → rows x ≡ of y → map rows (lists ++ x ∷ []) ≡ map of (accs ++ y ∷ [])
one_more rows of lists accs x y e same =
    map-append rows lists (x ∷ []) ∙ ap (λ l. l ++ rows x ∷ []) e ∙ ap (λ r. map of accs ++ r ∷ []) same ∙ sym (map-append of accs (y ∷ []))
