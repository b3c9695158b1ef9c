-- A body asks for exactly the cells that it needs.
use Rattle.std.proofs.Common.{ℕ, zero, suc, ◌≡◌, ◌-◌, ◌<◌, ◌≤◌, Bool, true, false, List, length, sym, refl, ap, ◌∙◌, subst, inl, inr, arith}
use Rattle.std.specs.Prelude.{Contains, ◌⊎◌, ◌≢◌, ◌↔◌}
use Rattle.std.proofs.lemmas.Bool.{cases_eq}
use Rattle.hot_units.specs.Values.{CellValue, BodyValue}
use Rattle.hot_units.specs.Keys.{child, HasLevel, covers, IsCell, parent}
use Rattle.hot_model.specs.Trees.{is_empty, cell_record, opened_in}
use Rattle.hot_model.proofs.Parts.{child-level}
use Rattle.hot_model.proofs.Fronts.{covers-self, parent_of_child}
use Rattle.hot_model.proofs.Walks.{some_length}
use Rattle.rank_model.specs.World.{World, is_leaf, bodies_in, piece}
use Rattle.rank_model.specs.Branches.{IsBranch, first_rank}
use Rattle.rank_model.specs.Needs.{IsAbove, asks_in, is_away, IsForeign, NeedsFor, asks, Needs}
use Rattle.rank_model.proofs.Owners.{one_owner}
use Rattle.rank_model.proofs.Aways.{foreign_away, away_foreign, away_own}
use Rattle.rank_model.proofs.Asks.{is_last, opened_deeper, deeper_fits, last-is-leaf, IsAwayIn, away_in_itself, away_in_more, outer_sound, opened_itself, AskedLast, AskedHere, AskedBelow, asks_found, Found, opened_child, opened_found, asks_deeper, asks_itself, outer_complete, asks-last, away_child}

-- why a body needs k, of what it opens in a cell c
abbrev pub NeedsIn : (CellValue → Bool) → World → ℕ → ℕ → ℕ → Type 0
NeedsIn opens w deep c k =
    Contains (opened_in opens w.leaf w.bodies deep c) k
    ⊎ (((p : ℕ) × IsBranch w p k) × ((l : ℕ) × Contains (opened_in opens w.leaf w.bodies deep c) l × (is_leaf w l ≡ true) × IsAbove l k))

needs_deeper : (opens : CellValue → Bool) (w : World) (n c d k : ℕ) → is_empty (bodies_in w c) ≡ false → opens (cell_record w.bodies c) ≡ true → is_last w (suc n) c ≡ false → d < 8 → NeedsIn opens w n (child c d) k → NeedsIn opens w (suc n) c k
needs_deeper opens w n c d k e o l h x =
    elim x [
      | inl m ↦ inl (opened_deeper opens w n c k e o l (d, h, m))
      | inr y ↦ inr (y.0, (y.1.0, opened_deeper opens w n c y.1.0 e o l (d, h, y.1.1), y.1.2, y.1.3))
    ]

-- a level further down
child_fits : (c d n : ℕ) → suc n ≤ 21 → HasLevel c (21 - suc n) → d < 8 → HasLevel (child c d) (21 - n)
child_fits c d n h p m = subst (λ (z : ℕ). HasLevel (child c d) z) (deeper_fits n h) (child-level c (21 - suc n) d p m)

asks_sound_step : (opens : CellValue → Bool) (w : World) (me deep c k : ℕ) → deep ≤ 21 → HasLevel c (21 - deep)
    → ((n d : ℕ) → deep ≡ suc n → d < 8 → Contains (asks_in opens w me n (child c d)) k → IsAwayIn w me (child c d) k × NeedsIn opens w n (child c d) k)
    → Contains (asks_in opens w me deep c) k → IsAwayIn w me c k × NeedsIn opens w deep c k
asks_sound_step opens w me deep c k h p deeper m =
    let f = asks_found opens w me deep c k m in
    let here = opened_itself opens w deep c f.0 f.1 in
    elim f.2 [
      | AskedLast l x ↦
          let s = outer_sound w me deep c k h p x in (
            s.0,
            elim (cases_eq k c) [
              | inl same ↦ inl (subst (λ (z : ℕ). Contains (opened_in opens w.leaf w.bodies deep c) z) (sym same) here)
              | inr other ↦ elim (s.1) [
                | inl same ↦ absurd (other same)
                | inr b ↦ inr (b, (c, here, sym (last-is-leaf w deep c h p) ∙ l, (s.0.covered, λ e. other (sym e))))
              ]
            ],
          )
      | AskedHere same a ↦ (away_in_itself w me c k (21 - deep) (omega arith) p f.0 a same, inl (subst (λ (z : ℕ). Contains (opened_in opens w.leaf w.bodies deep c) z) (sym same) here))
      | AskedBelow n e l x ↦
          let r = deeper n x.0 e x.1 x.2 in
          let within : suc n ≤ 21 = omega (arith, h, e) in
          let q : HasLevel c (21 - suc n) = subst (λ (z : ℕ). HasLevel c (21 - z)) e p in (
            away_in_more w me c x.0 k (21 - suc n) (omega (arith, within)) q x.1 r.0,
            subst (λ (z : ℕ). NeedsIn opens w z c k) (sym e) (needs_deeper opens w n c x.0 k f.0 f.1 (subst (λ (z : ℕ). is_last w z c ≡ false) e l) x.1 r.1),
          )
    ]

-- what is asked for is needed
pub asks_sound : (opens : CellValue → Bool) (w : World) (me deep c k : ℕ) → deep ≤ 21 → HasLevel c (21 - deep) → Contains (asks_in opens w me deep c) k → IsAwayIn w me c k × NeedsIn opens w deep c k
asks_sound opens w me zero c k h p m = asks_sound_step opens w me zero c k h p (λ n d e. absurd (omega (arith, e))) m
asks_sound opens w me (suc deep) c k h p m =
    let below : (d : ℕ) → d < 8 → Contains (asks_in opens w me deep (child c d)) k → IsAwayIn w me (child c d) k × NeedsIn opens w deep (child c d) k =
    λ d l x. asks_sound opens w me deep (child c d) k (omega (arith, h)) (child_fits c d deep h p l) x in
    asks_sound_step opens w me (suc deep) c k h p
    (λ n d e. let same : deep ≡ n = omega (arith, e) in subst (λ (z : ℕ). d < 8 → Contains (asks_in opens w me z (child c d)) k → IsAwayIn w me (child c d) k × NeedsIn opens w z (child c d) k) same (below d))
    m

-- an opened cell of another rank is asked for
pub asks_opened : (opens : CellValue → Bool) (w : World) (me deep c k : ℕ) → is_away w me k ≡ true → Contains (opened_in opens w.leaf w.bodies deep c) k → Contains (asks_in opens w me deep c) k
asks_opened opens w me zero c k a m =
    let f = opened_found opens w zero c k m in
    elim f.2 [
      | inl same ↦ subst (λ (z : ℕ). Contains (asks_in opens w me zero c) z) (sym same) (asks_itself opens w me zero c f.0 f.1 (subst (λ (z : ℕ). is_away w me z ≡ true) same a))
      | inr x ↦ absurd (omega (arith, x.1.1))
    ]
asks_opened opens w me (suc deep) c k a m =
    let f = opened_found opens w (suc deep) c k m in
    elim f.2 [
      | inl same ↦ subst (λ (z : ℕ). Contains (asks_in opens w me (suc deep) c) z) (sym same) (asks_itself opens w me (suc deep) c f.0 f.1 (subst (λ (z : ℕ). is_away w me z ≡ true) same a))
      | inr x ↦
          let same : x.1.0 ≡ deep = omega (arith, x.1.1) in
          let found : Found (opened_child opens w deep c) k = subst (λ (z : ℕ). Found (opened_child opens w z c) k) same x.1.2 in
          asks_deeper opens w me deep c k f.0 f.1 x.0 (found.0, found.1, asks_opened opens w me deep (child c found.0) k a found.2)
    ]

leaf_asks : (opens : CellValue → Bool) (w : World) (me q deep c k l : ℕ) → deep ≤ 21 → HasLevel c (21 - deep) → IsBranch w q k → q ≢ me → is_leaf w l ≡ true → covers l k ≡ true → is_empty (bodies_in w c) ≡ false → opens (cell_record w.bodies c) ≡ true → l ≡ c → Contains (asks_in opens w me deep c) k
leaf_asks opens w me q deep c k l h p b n leaf over e o same =
    let last : is_last w deep c ≡ true = last-is-leaf w deep c h p ∙ subst (λ (z : ℕ). is_leaf w z ≡ true) same leaf in
    subst (λ (xs : List ℕ). Contains xs k) (sym (asks-last opens w me deep c e o last))
    (outer_complete w me q deep c k h p b n (subst (λ (z : ℕ). covers z k ≡ true) same over))

-- a branch of another rank in an opened leaf is asked for
pub asks_branch : (opens : CellValue → Bool) (w : World) (me q deep c k l : ℕ) → deep ≤ 21 → HasLevel c (21 - deep) → IsBranch w q k → q ≢ me → is_leaf w l ≡ true → covers l k ≡ true → Contains (opened_in opens w.leaf w.bodies deep c) l → Contains (asks_in opens w me deep c) k
asks_branch opens w me q zero c k l h p b n leaf over m =
    let f = opened_found opens w zero c l m in
    elim f.2 [
      | inl same ↦ leaf_asks opens w me q zero c k l h p b n leaf over f.0 f.1 same
      | inr x ↦ absurd (omega (arith, x.1.1))
    ]
asks_branch opens w me q (suc deep) c k l h p b n leaf over m =
    let f = opened_found opens w (suc deep) c l m in
    elim f.2 [
      | inl same ↦ leaf_asks opens w me q (suc deep) c k l h p b n leaf over f.0 f.1 same
      | inr x ↦
          let same : x.1.0 ≡ deep = omega (arith, x.1.1) in
          let found : Found (opened_child opens w deep c) l = subst (λ (z : ℕ). Found (opened_child opens w z c) l) same x.1.2 in
          asks_deeper opens w me deep c k f.0 f.1 x.0
          (found.0, found.1, asks_branch opens w me q deep (child c found.0) k l (omega (arith, h)) (child_fits c found.0 deep h p found.1) b n leaf over found.2)
    ]

-- an opened cell is a cell with bodies that is opened
pub opened_sound : (opens : CellValue → Bool) (w : World) (deep c k : ℕ) → deep ≤ 21 → HasLevel c (21 - deep) → Contains (opened_in opens w.leaf w.bodies deep c) k → IsCell k × (0 < length (bodies_in w k)) × (opens (cell_record w.bodies k) ≡ true)
opened_sound opens w zero c k h p m =
    let f = opened_found opens w zero c k m in
    elim f.2 [
      | inl same ↦ subst (λ (z : ℕ). IsCell z × (0 < length (bodies_in w z)) × (opens (cell_record w.bodies z) ≡ true)) (sym same) ((21 - zero, omega arith, p), some_length (bodies_in w c) f.0, f.1)
      | inr x ↦ absurd (omega (arith, x.1.1))
    ]
opened_sound opens w (suc deep) c k h p m =
    let f = opened_found opens w (suc deep) c k m in
    elim f.2 [
      | inl same ↦ subst (λ (z : ℕ). IsCell z × (0 < length (bodies_in w z)) × (opens (cell_record w.bodies z) ≡ true)) (sym same) ((21 - suc deep, omega arith, p), some_length (bodies_in w c) f.0, f.1)
      | inr x ↦
          let same : x.1.0 ≡ deep = omega (arith, x.1.1) in
          let found : Found (opened_child opens w deep c) k = subst (λ (z : ℕ). Found (opened_child opens w z c) k) same x.1.2 in
          opened_sound opens w deep (child c found.0) k (omega (arith, h)) (child_fits c found.0 deep h p found.1) found.2
    ]

at_root : HasLevel 1 (21 - 21)
at_root = (omega arith, omega arith)

needs_away : (opens : CellValue → Bool) (w : World) (me k : ℕ) → IsForeign w me k → NeedsFor opens w k → Contains (asks opens w me) k
needs_away opens w me k f x =
    elim x [
      | inl m ↦
          let s = opened_sound opens w 21 1 k (omega arith) at_root m in
          asks_opened opens w me 21 1 k (foreign_away w me k s.0 s.1 f) m
      | inr y ↦
          let b = y.0.1 in
          let own : y.0.0 ≡ f.0 = one_owner w y.0.0 f.0 k b.cell b.some (k, b, covers-self k b.cell.0 b.cell.1 b.cell.2) f.1 in
          asks_branch opens w me y.0.0 21 1 k y.1.0 (omega arith) at_root b (λ e. f.2 (sym own ∙ e)) y.1.2 y.1.3.0 y.1.1
    ]

-- a body asks for exactly the cells of other ranks that it needs
pub asks-are-needs : (opens : CellValue → Bool) (w : World) (me k : ℕ) → Contains (asks opens w me) k ↔ (IsForeign w me k × NeedsFor opens w k)
asks-are-needs opens w me k = (
  (λ m. let s = asks_sound opens w me 21 1 k (omega arith) at_root m in (away_foreign w me k s.0.cell s.0.some s.0.away, s.1)),
  (λ x. needs_away opens w me k x.0 x.1),
)

-- and so does a rank
pub needs-are-asks : (opens : BodyValue → CellValue → Bool) (w : World) (q k : ℕ) → Needs opens w q k ↔ ((b : BodyValue) × Contains (piece w q) b × Contains (asks (opens b) w q) k)
needs-are-asks opens w q k = (
  (λ x. (x.1.0, x.1.1, needs_away (opens x.1.0) w q k x.0 x.1.2)),
  (λ x. let r = asks_sound (opens x.0) w q 21 1 k (omega arith) at_root x.2 in (away_foreign w q k r.0.cell r.0.some r.0.away, (x.0, x.1, r.1))),
)

-- a cell that is asked for is a branch, or its parent is asked for
abbrev pub IsReached : (CellValue → Bool) → World → ℕ → ℕ → ℕ → ℕ → Type 0
IsReached opens w me deep c k = (k ≡ c) ⊎ (((q : ℕ) × IsBranch w q k) ⊎ Contains (asks_in opens w me deep c) (parent k))

reached_step : (opens : CellValue → Bool) (w : World) (me deep c k : ℕ) → deep ≤ 21 → HasLevel c (21 - deep)
    → ((n d : ℕ) → deep ≡ suc n → d < 8 → Contains (asks_in opens w me n (child c d)) k → IsReached opens w me n (child c d) k)
    → Contains (asks_in opens w me deep c) k → IsReached opens w me deep c k
reached_step opens w me deep c k h p deeper m =
    let f = asks_found opens w me deep c k m in
    elim f.2 [
      | AskedLast l x ↦ elim (outer_sound w me deep c k h p x).1 [
        | inl same ↦ inl same
        | inr b ↦ inr (inl b)
      ]
      | AskedHere same a ↦ inl same
      | AskedBelow n e l x ↦
          let within : suc n ≤ 21 = omega (arith, h, e) in
          let q : HasLevel c (21 - suc n) = subst (λ (z : ℕ). HasLevel c (21 - z)) e p in
          let s = asks_sound opens w me n (child c x.0) k (omega (arith, within)) (child_fits c x.0 n within q x.1) x.2 in
          elim (deeper n x.0 e x.1 x.2) [
            | inl same ↦ by_away n x.0 x.1 within q f.0 f.1 s.0 same (is_away w me c) refl
            | inr y ↦ elim y [
              | inl b ↦ inr (inl b)
              | inr z ↦ inr (inr (subst (λ (i : ℕ). Contains (asks_in opens w me i c) (parent k)) (sym e) (asks_deeper opens w me n c (parent k) f.0 f.1 (subst (λ (i : ℕ). is_last w i c ≡ false) e l) (x.0, x.1, z))))
            ]
          ]
    ]
  where
    by_away : (n d : ℕ) → d < 8 → suc n ≤ 21 → HasLevel c (21 - suc n) → is_empty (bodies_in w c) ≡ false → opens (cell_record w.bodies c) ≡ true → IsAwayIn w me (child c d) k → k ≡ child c d → (a : Bool) → is_away w me c ≡ a → IsReached opens w me deep c k
    by_away n d l within q e o s same true g =
        inr (inr (subst (λ (z : ℕ). Contains (asks_in opens w me deep c) z) (sym (ap parent same ∙ parent_of_child c d l)) (asks_itself opens w me deep c e o g)))
    by_away n d l within q e o s same false g =
        let b = away_child w me c d (21 - suc n) (omega (arith, within)) q l g (some_length (bodies_in w c) e) (subst (λ (z : ℕ). 0 < length (bodies_in w z)) same s.some) (subst (λ (z : ℕ). is_away w me z ≡ true) same s.away) in
        inr (inl (b.0, subst (IsBranch w b.0) (sym same) b.1))

reached : (opens : CellValue → Bool) (w : World) (me deep c k : ℕ) → deep ≤ 21 → HasLevel c (21 - deep) → Contains (asks_in opens w me deep c) k → IsReached opens w me deep c k
reached opens w me zero c k h p m = reached_step opens w me zero c k h p (λ n d e. absurd (omega (arith, e))) m
reached opens w me (suc deep) c k h p m =
    let below : (d : ℕ) → d < 8 → Contains (asks_in opens w me deep (child c d)) k → IsReached opens w me deep (child c d) k =
    λ d l x. reached opens w me deep (child c d) k (omega (arith, h)) (child_fits c d deep h p l) x in
    reached_step opens w me (suc deep) c k h p
    (λ n d e. let same : deep ≡ n = omega (arith, e) in subst (λ (z : ℕ). d < 8 → Contains (asks_in opens w me z (child c d)) k → IsReached opens w me z (child c d) k) same (below d))
    m

-- a cell that a body asks for is a branch, or the body asks for its parent
pub asks_parent : (opens : CellValue → Bool) (w : World) (me k : ℕ) → Contains (asks opens w me) k → ((q : ℕ) × IsBranch w q k) ⊎ Contains (asks opens w me) (parent k)
asks_parent opens w me k m =
    elim (reached opens w me 21 1 k (omega arith) at_root m) [
      | inl same ↦
          let s = asks_sound opens w me 21 1 k (omega arith) at_root m in
          let own = away_own w me k s.0.away in
          inl (first_rank w (bodies_in w k), record { cell = s.0.cell; some = s.0.some; own = own.0; outermost = inl same })
      | inr y ↦ y
    ]
