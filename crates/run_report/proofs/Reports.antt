-- What a run shows, by what its ranks found.
use Rattle.std.proofs.Common.{ℕ, zero, suc, ◌≡◌, Bool, List, [], ◌∷◌, ◌++◌, length, map, Contains, refl, ap, sym, ◌∙◌, subst, inl, inr}
use Rattle.std.specs.Prelude.{◌||◌}
use Rattle.std.proofs.lemmas.List.{length-map}
use Rattle.std.proofs.lemmas.List.Elements.{filter_agree}
use Rattle.hot_units.specs.Values.{BodyValue}
use Rattle.hot_units.specs.Numbers.{numbers_below}
use Rattle.hot_units.proofs.Members.{map_same}
use Rattle.hot_model.specs.Cells.{cells}
use Rattle.rank_model.specs.World.{World, IsGood, bodies_in}
use Rattle.rank_model.specs.Split.{weight_in, split_world}
use Rattle.rank_model.specs.Branches.{is_branch, first_rank}
use Rattle.rank_model.specs.Needs.{is_listed, met_cells, round_bound}
use Rattle.key_order.specs.Ordered.{OrderedValue}
use Rattle.wire.specs.declared.entry.Entry.{Entry}
use Rattle.wire.specs.Desk.{letters_in, rounds_in}
use Rattle.branch_merge.specs.declared.listed.Listed.{Listed}
use Rattle.defer_walk.specs.Standing.{VisitOf}
use Rattle.split_table.specs.Table.{branch_cells, branch_of, branches_over}
use Rattle.rank_set.specs.declared.found.Effort.{Effort}
use Rattle.rank_set.specs.declared.sharing.Sharing.{Sharing}
use Rattle.rank_set.specs.Sharings.{shared}
use Rattle.rank_set.specs.Efforts.{effort_of, AreFindsIn}
use Rattle.run_report.specs.Report.{AreInPlay, most_rounds, report_of}
use Rattle.run_report.proofs.CellsInPlay.{branch_keys, met_are, met_ascend}

-- the leaf limit has no part in the branches
module _ (weight : BodyValue → ℕ) (bodies : List BodyValue) (ranks a b : ℕ) where
  listed_same : (n c : ℕ) → is_listed (split_world weight bodies ranks a) n c ≡ is_listed (split_world weight bodies ranks b) n c
  listed_same zero c = refl
  listed_same (suc n) c = ap (λ (t : Bool). t || is_branch (split_world weight bodies ranks a) n c) (listed_same n c)

  first_same : (xs : List BodyValue) → first_rank (split_world weight bodies ranks a) xs ≡ first_rank (split_world weight bodies ranks b) xs
  first_same [] = refl
  first_same (x ∷ xs) = refl

  -- the branches have the same keys under two leaf limits
  pub cells_same : branch_cells (split_world weight bodies ranks a) ≡ branch_cells (split_world weight bodies ranks b)
  cells_same = filter_agree (is_listed (split_world weight bodies ranks a) ranks) (is_listed (split_world weight bodies ranks b) ranks) (λ c. listed_same ranks c) (cells bodies)

  -- and the same ranks and records
  pub branches_same : map (branch_of (split_world weight bodies ranks a)) (branch_cells (split_world weight bodies ranks a)) ≡ map (branch_of (split_world weight bodies ranks b)) (branch_cells (split_world weight bodies ranks b))
  branches_same =
      ap (map (branch_of (split_world weight bodies ranks a))) cells_same
      ∙ map_same _ _ (branch_cells (split_world weight bodies ranks b)) (λ c h. let r = first_same (bodies_in (split_world weight bodies ranks a) c) in ap (λ n. with_rank n (branch_of (split_world weight bodies ranks b) c)) r)
    where
      with_rank : ℕ → Listed → Listed
      with_rank n x = record { rank = n; rec = x.rec }

-- the keys of the branches that are shown
keys_shown : (w : World) (cs : List ℕ) → branch_keys (map (branch_of w) cs) ≡ cs
keys_shown w [] = refl
keys_shown w (c ∷ cs) = ap (λ (l : List ℕ). c ∷ l) (keys_shown w cs)

length-numbers : (n : ℕ) → length (numbers_below n) ≡ n
unfolding numbers_below
length-numbers zero = refl
length-numbers (suc n) = longer (numbers_below n) n ∙ ap suc (length-numbers n)
  where
    longer : (xs : List ℕ) (x : ℕ) → length (xs ++ x ∷ []) ≡ suc (length xs)
    longer [] x = refl
    longer (y ∷ xs) x = ap suc (longer xs x)

-- as many ranks as the sharing has did something
pub efforts_few : {A : Type 0} (v : VisitOf A) (set : OrderedValue) (s : Sharing) (accs : List A) (efforts : List Effort) (opened : List ℕ) → AreFindsIn v (shared set s) accs efforts opened → length efforts ≡ s.ranks
efforts_few v set s accs efforts opened f = ap (λ (l : List Effort). length l) f.efforts_are ∙ length-map (numbers_below s.ranks) (effort_of v.opens (shared set s)) ∙ length-numbers s.ranks

-- the report
pub report_is : {A : Type 0} (v : VisitOf A) (set : OrderedValue) (s : Sharing) (log : List Entry) (accs : List A) (efforts own : List Effort) (opened : List ℕ) (branches : List Listed) (letters rounds count bound : ℕ)
    → IsGood (shared set s) → AreFindsIn v (shared set s) accs efforts opened → own ≡ efforts → branches ≡ branches_over set s.ranks → letters ≡ letters_in log → rounds ≡ rounds_in log
    → ((keys : List ℕ) → AreInPlay opened branches keys → count ≡ length keys) → bound ≡ most_rounds s.ranks count
    → record { efforts = own; branches = branches; letters = letters; rounds = rounds; cells = count; bound = bound } ≡ report_of v.opens (shared set s) log
report_is v set s log accs efforts own opened branches letters rounds count bound g f o t l r c b =
    let w = shared set s in
    let shown : branches ≡ map (branch_of w) (branch_cells w) = t ∙ branches_same (weight_in set.weights) set.bodies s.ranks 1 s.leaf in
    let keys : branch_keys branches ≡ branch_cells w = ap branch_keys shown ∙ keys_shown w (branch_cells w) in
    let met : AreInPlay opened branches (met_cells v.opens w) = record {
      ascend = met_ascend v.opens w g;
      all = λ k. (
        (λ h. elim ((met_are v.opens w k).0 h) [ inl i ↦ inl ((f.opened_are k).1 i) | inr i ↦ inr (subst (λ (x : List ℕ). Contains x k) (sym keys) i) ]),
        (λ h. (met_are v.opens w k).1 (elim h [ inl i ↦ inl ((f.opened_are k).0 i) | inr i ↦ inr (subst (λ (x : List ℕ). Contains x k) keys i) ])),
      );
    } in
    let n : count ≡ length (met_cells v.opens w) = c (met_cells v.opens w) met in
    let top : bound ≡ round_bound v.opens w = b ∙ ap (most_rounds s.ranks) n in
    let first : own ≡ map (effort_of v.opens w) (numbers_below s.ranks) = o ∙ f.efforts_are in
    rw (first, shown, l, r, n, top) refl

-- what was counted over slices was counted over their lists
pub counted_on : (opened all : List ℕ) (branches shown : List Listed) (n : ℕ) → opened ≡ all → branches ≡ shown
    → ((keys : List ℕ) → AreInPlay opened branches keys → n ≡ length keys) → (keys : List ℕ) → AreInPlay all shown keys → n ≡ length keys
counted_on opened all branches shown n o b c keys a =
    c keys (subst (λ (l : List ℕ). AreInPlay l branches keys) (sym o) (subst (λ (l : List Listed). AreInPlay all l keys) (sym b) a))
