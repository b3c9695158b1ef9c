-- The slots of the cells that were asked for, and the table of their places.
use Rattle.std.proofs.Common.{◌≡◌, ℕ, zero, suc, ◌+◌, ◌<◌, ◌≤◌, Bool, true, false, List, [], ◌∷◌, ◌++◌, length, set, refl, ap, sym, ◌∙◌, subst, arith, get_or, Some, None, inl, inr, append_assoc, eqb}
use Rattle.std.specs.Option.{is_some}
use Rattle.std.specs.Prelude.{slice_get, Contains, OnOk, OnErr, is_ok, All, ◌⊎◌, if◌then◌else◌}
use Rattle.std.specs.declared.result.Result.{Result}
use Rattle.std.specs.declared.result.Result.TheVariants.{Ok, Err}
use Rattle.std.specs.Ordering.{nat_cmp}
use Rattle.std.specs.Cmp.{nat_cmp_total, unsigned_tied}
use Rattle.std.specs.FinMap as table
use Rattle.std.proofs.lemmas.Bool.{cases_eq, ne_eqb, eq-eqb}
use Rattle.std.proofs.lemmas.List.{append-nil, length-append}
use Rattle.std.proofs.lemmas.List.Concat.{flat_map-append}
use Rattle.std.proofs.lemmas.List.Elements.{All-nil, All-cons, All-append}
use Rattle.hot_model.specs.declared.answer.Answer.{Answer}
use Rattle.defer_walk.specs.declared.asks.Slot.{Slot}
use Rattle.defer_walk.specs.declared.asks.AskedCell.{AskedCell}
use Rattle.defer_walk.specs.declared.held.Held.{Held}
use Rattle.defer_walk.specs.declared.listed.Listed.{Listed}
use Rattle.defer_walk.specs.Asked.{asked_keys, stored_at, filled, AreApart}
use Rattle.defer_walk.specs.Grouping.{listed_as, listed_of}
use Rattle.defer_walk.specs.Waiting.{slots_of, waiting_at, all_waiting, Places, ArePlaced, Inserts, Takes, unanswered_cells}
use Rattle.defer_walk.proofs.Slots.{some_same, get_last, get_front, get_end, get_set_same, get_set_other, set_same, stored_found, stored_none, filled_at, has_key}

-- what is promised at Ok holds there
pub on_ok : {T E : Type 0} (r : Result T E) (P : Type 0) → is_ok r ≡ true → OnOk r P → P
on_ok (Ok x) P e h = h
on_ok (Err x) P e h = absurd (let f : false ≡ true = e in cc)

-- what is promised at Err holds there
pub always_err : {T E : Type 0} (r : Result T E) (Q : Type 0) → Q → OnErr r Q
always_err (Ok x) Q h = tt
always_err (Err e) Q h = h

-- what is read at a place is there
pub read_cell : (cells : List AskedCell) (i : ℕ) (c d : AskedCell) → slice_get cells i ≡ Some c → d ≡ get_or cells i d → slice_get cells i ≡ Some d
read_cell [] i c d e f = absurd (cc)
read_cell (x ∷ xs) zero c d e f = ap Some (sym f)
read_cell (x ∷ xs) (suc i) c d e f = read_cell xs i c d e f

-- the slot of a cell
pub slot_there : (cells : List AskedCell) (i : ℕ) (c : AskedCell) → slice_get cells i ≡ Some c → slice_get (slots_of cells) i ≡ Some c.slot
slot_there [] i c e = absurd (cc)
slot_there (x ∷ xs) zero c e = ap (λ (y : AskedCell). Some y.slot) (some_same e)
slot_there (x ∷ xs) (suc i) c e = slot_there xs i c e

-- and the cell of a slot
pub slot_cell : (cells : List AskedCell) (i : ℕ) (s : Slot) → slice_get (slots_of cells) i ≡ Some s → (c : AskedCell) × (slice_get cells i ≡ Some c) × (c.slot ≡ s)
slot_cell [] i s e = absurd (cc)
slot_cell (x ∷ xs) zero s e = (x, refl, some_same e)
slot_cell (x ∷ xs) (suc i) s e = slot_cell xs i s e

-- a cell that is set sets its slot
pub slots_set : (cells : List AskedCell) (i : ℕ) (d : AskedCell) → slots_of (set cells i d) ≡ set (slots_of cells) i d.slot
slots_set [] i d = refl
slots_set (x ∷ xs) zero d = refl
slots_set (x ∷ xs) (suc i) d = ap (λ (ss : List Slot). x.slot ∷ ss) (slots_set xs i d)

-- and leaves the slots where it has the same
pub slots_kept : (cells : List AskedCell) (i : ℕ) (c d : AskedCell) → slice_get cells i ≡ Some c → d.slot ≡ c.slot → slots_of (set cells i d) ≡ slots_of cells
slots_kept cells i c d e same = slots_set cells i d ∙ set_same (slots_of cells) i d.slot (slot_there cells i c e ∙ ap Some (sym same))

-- the pairs of all cells by those of one
pub waiting_split : (cells : List AskedCell) (i : ℕ) (c : AskedCell) → slice_get cells i ≡ Some c → (front : List Listed) × (back : List Listed) × ((d : AskedCell) → all_waiting (set cells i d) ≡ front ++ (waiting_at d ++ back))
waiting_split [] i c e = absurd (cc)
waiting_split (x ∷ xs) zero c e = ([], all_waiting xs, λ d. refl)
waiting_split (x ∷ xs) (suc i) c e =
    let f = waiting_split xs i c e in
    (waiting_at x ++ f.0, f.1, λ d. ap (λ (ls : List Listed). waiting_at x ++ ls) (f.2 d) ∙ sym (append_assoc (waiting_at x) f.0 (waiting_at d ++ f.1)))

-- and as they are
pub waiting_now : (cells : List AskedCell) (i : ℕ) (c : AskedCell) (e : slice_get cells i ≡ Some c) → all_waiting cells ≡ (waiting_split cells i c e).0 ++ (waiting_at c ++ (waiting_split cells i c e).1)
waiting_now cells i c e = ap all_waiting (sym (set_same cells i c e)) ∙ (waiting_split cells i c e).2 c

-- a cell for which the same bodies wait changes no pair
pub waiting_kept : (cells : List AskedCell) (i : ℕ) (c d : AskedCell) → slice_get cells i ≡ Some c → waiting_at d ≡ waiting_at c → all_waiting (set cells i d) ≡ all_waiting cells
waiting_kept cells i c d e same = (waiting_split cells i c e).2 d ∙ ap (λ (ls : List Listed). (waiting_split cells i c e).0 ++ (ls ++ (waiting_split cells i c e).1)) same ∙ sym (waiting_now cells i c e)

-- pairs that are put in at a cell are put in among all
pub waiting_inserted : (cells : List AskedCell) (i : ℕ) (c d : AskedCell) (more : List Listed) → slice_get cells i ≡ Some c → Inserts more (waiting_at c) (waiting_at d) → Inserts more (all_waiting cells) (all_waiting (set cells i d))
waiting_inserted cells i c d more e p =
    let f = waiting_split cells i c e in
    record {
      front = f.0 ++ p.front;
      back = p.back ++ f.1;
      old_is = waiting_now cells i c e ∙ ap (λ (ls : List Listed). f.0 ++ (ls ++ f.1)) p.old_is ∙ ap (λ (ls : List Listed). f.0 ++ ls) (append_assoc p.front p.back f.1) ∙ sym (append_assoc f.0 p.front (p.back ++ f.1));
      new_is = f.2 d ∙ ap (λ (ls : List Listed). f.0 ++ (ls ++ f.1)) p.new_is
          ∙ ap (λ (ls : List Listed). f.0 ++ ls) (append_assoc p.front (more ++ p.back) f.1 ∙ ap (λ (ls : List Listed). p.front ++ ls) (append_assoc more p.back f.1))
          ∙ sym (append_assoc f.0 p.front (more ++ (p.back ++ f.1)));
    }

-- those of a cell may be taken out
pub waiting_taken : (cells : List AskedCell) (i : ℕ) (c d : AskedCell) → slice_get cells i ≡ Some c → waiting_at d ≡ [] → Inserts (waiting_at c) (all_waiting (set cells i d)) (all_waiting cells)
waiting_taken cells i c d e none =
    let f = waiting_split cells i c e in
    record {
      front = f.0;
      back = f.1;
      old_is = f.2 d ∙ ap (λ (ls : List Listed). f.0 ++ (ls ++ f.1)) none;
      new_is = waiting_now cells i c e;
    }

-- or as two groups
pub waiting_takes : (cells : List AskedCell) (i : ℕ) (c d : AskedCell) (h k : Held) → slice_get cells i ≡ Some c → waiting_at d ≡ [] → listed_of h ++ listed_of k ≡ waiting_at c → Takes (h ∷ k ∷ []) (all_waiting cells) (all_waiting (set cells i d))
waiting_takes cells i c d h k e none both =
    let f = waiting_split cells i c e in (
      f.0 ++ (listed_of k ++ f.1),
      record {
        front = f.0;
        back = listed_of k ++ f.1;
        old_is = refl;
        new_is = waiting_now cells i c e ∙ ap (λ (ls : List Listed). f.0 ++ (ls ++ f.1)) (sym both) ∙ ap (λ (ls : List Listed). f.0 ++ ls) (append_assoc (listed_of h) (listed_of k) f.1);
      },
      (
        f.0 ++ f.1,
        record { front = f.0; back = f.1; old_is = refl; new_is = refl },
        sym (f.2 d ∙ ap (λ (ls : List Listed). f.0 ++ (ls ++ f.1)) none),
      ),
    )

-- as many more
pub inserts_long : (more old new : List Listed) → Inserts more old new → length new ≡ length old + length more
inserts_long more old new p = omega (arith, ap length p.old_is, ap length p.new_is, length-append p.front p.back, length-append p.front (more ++ p.back), length-append more p.back)

-- a pair a body
pub listed_long : (key : ℕ) (whole : Bool) (bs : List ℕ) → length (listed_as key whole bs) ≡ length bs
listed_long key whole [] = refl
listed_long key whole (b ∷ bs) = ap suc (listed_long key whole bs)

-- a cell without bodies that wait
pub waits_none : (c : AskedCell) → c.opening.items ≡ [] → c.adding.items ≡ [] → waiting_at c ≡ []
waits_none c e f = rw (e, f) refl

-- a cell for which no body waits adds no pair
pub waiting_more : (cells : List AskedCell) (c : AskedCell) → waiting_at c ≡ [] → all_waiting (cells ++ c ∷ []) ≡ all_waiting cells
waiting_more cells c none = flat_map-append waiting_at cells (c ∷ []) ∙ ap (λ (ls : List Listed). all_waiting cells ++ (ls ++ [])) none ∙ append-nil (all_waiting cells)

-- bodies that wait for another cell
listed_other : (key k : ℕ) (whole : Bool) (bs : List ℕ) → (k ≡ key → ⊥) → All (λ p. p.key ≡ key → ⊥) (listed_as k whole bs)
listed_other key k whole [] n = All-nil (λ (p : Listed). p.key ≡ key → ⊥)
listed_other key k whole (b ∷ bs) n = All-cons (λ (p : Listed). p.key ≡ key → ⊥) (record { body = b; whole = whole; key = k }) (listed_as k whole bs) n (listed_other key k whole bs n)

-- no pair is left for a key where each cell has another key or no body that waits
pub none_for : (key : ℕ) (cells : List AskedCell) → ((i : ℕ) (c : AskedCell) → slice_get cells i ≡ Some c → (c.slot.key ≡ key → ⊥) ⊎ (waiting_at c ≡ [])) → All (λ p. p.key ≡ key → ⊥) (all_waiting cells)
none_for key [] f = All-nil (λ (p : Listed). p.key ≡ key → ⊥)
none_for key (x ∷ xs) f = All-append (λ (p : Listed). p.key ≡ key → ⊥) (waiting_at x) (all_waiting xs)
    (elim (f 0 x refl) [
      | inl n ↦ All-append (λ (p : Listed). p.key ≡ key → ⊥) (listed_as x.slot.key false x.opening.items) (listed_as x.slot.key true x.adding.items) (listed_other key x.slot.key false x.opening.items n) (listed_other key x.slot.key true x.adding.items n)
      | inr e ↦ subst (All (λ (p : Listed). p.key ≡ key → ⊥)) (sym e) (All-nil (λ (p : Listed). p.key ≡ key → ⊥))
    ])
    (none_for key xs (λ i c e. f (suc i) c e))

-- an empty table is that of no cells
pub empty_placed : (m : Places) (cells : List AskedCell) → m ≡ table.empty → cells ≡ [] → ArePlaced m cells
empty_placed m cells e f = record {
  there = λ i c g. absurd (let h : slice_get [] i ≡ Some c = sym (ap (λ (xs : List AskedCell). slice_get xs i) f) ∙ g in cc);
  found = λ key i g. absurd (let h : None ≡ Some i = sym (table.get-empty nat_cmp key) ∙ (ap (λ (t : Places). table.get t key) (sym e) ∙ g) in cc);
}

module _ (m : Places) where
  -- what an insert makes of the places
  got_same : (key i : ℕ) → table.get (table.insert m key i) key ≡ Some i
  got_same key i = table.get-insert nat_cmp_total m key i key ∙ rw (unsigned_tied key key, eq-eqb key key refl) refl

  got_other : (key i k : ℕ) → (key ≡ k → ⊥) → table.get (table.insert m key i) k ≡ table.get m k
  got_other key i k apart = table.get-insert nat_cmp_total m key i k ∙ rw (unsigned_tied k key, ne_eqb k key (λ e. apart (sym e))) refl

  module _ (cells : List AskedCell) (is : ArePlaced m cells) where
    -- no two cells have one key
    pub cells_apart : (i j : ℕ) (c d : AskedCell) → slice_get cells i ≡ Some c → slice_get cells j ≡ Some d → c.slot.key ≡ d.slot.key → i ≡ j
    cells_apart i j c d e f k = some_same (sym (is.there i c e) ∙ ap (table.get m) k ∙ is.there j d f)

    pub slots_apart : AreApart (slots_of cells)
    slots_apart i j s t e f k =
        let x = slot_cell cells i s e in
        let y = slot_cell cells j t f in
        cells_apart i j x.0 y.0 x.1 y.1 (ap (λ (r : Slot). r.key) x.2 ∙ k ∙ sym (ap (λ (r : Slot). r.key) y.2))

    -- and a key that was asked for has its place
    pub key_placed : (key : ℕ) → Contains (asked_keys (slots_of cells)) key → (i : ℕ) × (table.get m key ≡ Some i)
    key_placed key h =
        let f = has_key (slots_of cells) key h in
        let x = slot_cell cells f.0 f.1 f.2 in
        (f.0, ap (table.get m) (sym (ap (λ (r : Slot). r.key) x.2 ∙ f.3)) ∙ is.there f.0 x.0 x.1)

    lacks_key : (key : ℕ) → table.get m key ≡ None → Contains (asked_keys (slots_of cells)) key → ⊥
    lacks_key key e h = let f = key_placed key h in (let g : None ≡ Some f.0 = sym e ∙ f.1 in absurd (cc))

    other_first : (key i : ℕ) (c : AskedCell) → slice_get cells i ≡ Some c → c.slot.key ≡ key → (j : ℕ) (t : Slot) → j < i → slice_get (slots_of cells) j ≡ Some t → t.key ≡ key → ⊥
    other_first key i c e k j t l f h = let same : j ≡ i = slots_apart j i t c.slot f (slot_there cells i c e) (h ∙ sym k) in omega (arith, l, same)

    -- a look-up finds what is stored
    pub stored_placed : (key i : ℕ) (c : AskedCell) → table.get m key ≡ Some i → slice_get cells i ≡ Some c → stored_at (slots_of cells) key ≡ c.slot.answer
    stored_placed key i c e f =
        let x = is.found key i e in
        let k : c.slot.key ≡ key = ap (λ (d : AskedCell). d.slot.key) (some_same (sym f ∙ x.1)) ∙ x.2 in
        stored_found (slots_of cells) key i c.slot (slot_there cells i c f) k (other_first key i c f k)

    -- and finds nothing else
    pub stored_absent : (key : ℕ) → table.get m key ≡ None → stored_at (slots_of cells) key ≡ None
    stored_absent key e = stored_none (slots_of cells) key (lacks_key key e)

    -- an answer is stored at the place of its key
    pub slots_filled : (key i : ℕ) (c d : AskedCell) (answer : Answer) → table.get m key ≡ Some i → slice_get cells i ≡ Some c → d.slot ≡ record { owner = c.slot.owner; key = c.slot.key; answer = Some answer } → slots_of (set cells i d) ≡ filled (slots_of cells) key answer
    slots_filled key i c d answer e f s =
        let x = is.found key i e in
        let k : c.slot.key ≡ key = ap (λ (y : AskedCell). y.slot.key) (some_same (sym f ∙ x.1)) ∙ x.2 in
        slots_set cells i d ∙ ap (set (slots_of cells) i) s ∙ filled_at key answer (slots_of cells) i c.slot (slot_there cells i c f) k (other_first key i c f k)

    -- a cell with the same key may be set
    pub placed_set : (i : ℕ) (c d : AskedCell) → slice_get cells i ≡ Some c → d.slot.key ≡ c.slot.key → ArePlaced m (set cells i d)
    placed_set i c d e k = record {
      there = λ j x f. elim (cases_eq i j) [
        | inl q ↦
            let s : x ≡ d = get_set_same cells i d x (ap (slice_get (set cells i d)) q ∙ f) in
            ap (λ (y : AskedCell). table.get m y.slot.key) s ∙ ap (table.get m) k ∙ is.there i c e ∙ ap Some q
        | inr n ↦ is.there j x (sym (get_set_other cells i j d n) ∙ f)
      ];
      found = λ key j f. elim (cases_eq i j) [
        | inl q ↦
            let x = is.found key j f in
            let s : c ≡ x.0 = some_same (sym e ∙ ap (slice_get cells) q ∙ x.1) in
            (d, ap (slice_get (set cells i d)) (sym q) ∙ set_there cells i c d e, k ∙ ap (λ (y : AskedCell). y.slot.key) s ∙ x.2)
        | inr n ↦ let x = is.found key j f in (x.0, get_set_other cells i j d n ∙ x.1, x.2)
      ];
    }
      where
        set_there : (xs : List AskedCell) (i : ℕ) (c d : AskedCell) → slice_get xs i ≡ Some c → slice_get (set xs i d) i ≡ Some d
        set_there [] i c d e = absurd (cc)
        set_there (x ∷ xs) zero c d e = refl
        set_there (x ∷ xs) (suc i) c d e = set_there xs i c d e

    -- one cell more may be asked for
    pub placed_more : (c : AskedCell) → table.get m c.slot.key ≡ None → ArePlaced (table.insert m c.slot.key (length cells)) (cells ++ c ∷ [])
    placed_more c none = record {
      there = λ i x e. elim (get_last cells c x i e) [
        | inl f ↦
            let old = is.there i x f in
            got_other c.slot.key (length cells) x.slot.key (λ q. (let g : None ≡ Some i = sym none ∙ ap (table.get m) q ∙ old in absurd (cc))) ∙ old
        | inr f ↦ ap (λ (y : AskedCell). table.get (table.insert m c.slot.key (length cells)) y.slot.key) f.1 ∙ got_same c.slot.key (length cells) ∙ ap Some (sym f.0)
      ];
      found = λ key i e. elim (cases_eq c.slot.key key) [
        | inl q ↦
            let at : length cells ≡ i = some_same (sym (got_same c.slot.key (length cells)) ∙ ap (table.get (table.insert m c.slot.key (length cells))) q ∙ e) in
            (c, ap (slice_get (cells ++ c ∷ [])) (sym at) ∙ get_end cells c, q)
        | inr n ↦
            let x = is.found key i (sym (got_other c.slot.key (length cells) key n) ∙ e) in
            (x.0, get_front cells (c ∷ []) i x.0 x.1, x.2)
      ];
    }

    -- no pair waits for a key that was not asked for
    pub none_absent : (key : ℕ) → table.get m key ≡ None → All (λ p. p.key ≡ key → ⊥) (all_waiting cells)
    none_absent key e = none_for key cells (λ i c f. inl (λ k. (let g : None ≡ Some i = sym e ∙ ap (table.get m) (sym k) ∙ is.there i c f in absurd (cc))))

    -- nor for one whose bodies were taken out
    pub none_taken : (key i : ℕ) (c d : AskedCell) → table.get m key ≡ Some i → slice_get cells i ≡ Some c → waiting_at d ≡ [] → All (λ p. p.key ≡ key → ⊥) (all_waiting (set cells i d))
    none_taken key i c d e f none = none_for key (set cells i d) (λ j x g. elim (cases_eq i j) [
      | inl q ↦ inr (ap waiting_at (get_set_same cells i d x (ap (slice_get (set cells i d)) q ∙ g)) ∙ none)
      | inr n ↦ inl (λ k. n (some_same (sym e ∙ ap (table.get m) (sym k) ∙ is.there j x (sym (get_set_other cells i j d n) ∙ g))))
    ])

-- the cells that lack their answers are no more than all
pub unanswered_short : (ss : List Slot) → unanswered_cells ss ≤ length ss
unanswered_short [] = omega arith
unanswered_short (s ∷ ss) = by_test (is_some s.answer) (unanswered_short ss)
  where
    by_test : (t : Bool) → unanswered_cells ss ≤ length ss → (if t then unanswered_cells ss else suc (unanswered_cells ss)) ≤ suc (length ss)
    by_test true h = omega (arith, h)
    by_test false h = omega (arith, h)

-- an answer that comes is one less to come
pub unanswered_filled : (key : ℕ) (answer : Answer) (ss : List Slot) → Contains (asked_keys ss) key → stored_at ss key ≡ None → unanswered_cells ss ≡ suc (unanswered_cells (filled ss key answer))
unanswered_filled key answer [] h e = absurd (omega (arith, h.1))
unanswered_filled key answer (s ∷ ss) h e = by_key (eqb s.key key) refl e (unanswered_filled key answer ss)
  where
    later : eqb s.key key ≡ false → (k : ℕ) → k < length (asked_keys (s ∷ ss)) → get_or (asked_keys (s ∷ ss)) k key ≡ key → Contains (asked_keys ss) key
    later f zero p q = absurd (let g : false ≡ true = sym f ∙ eq-eqb s.key key q in cc)
    later f (suc k) p q = (k, omega (arith, p), q)

    by_key : (b : Bool) → eqb s.key key ≡ b → (if b then s.answer else stored_at ss key) ≡ None → (Contains (asked_keys ss) key → stored_at ss key ≡ None → unanswered_cells ss ≡ suc (unanswered_cells (filled ss key answer)))
        → unanswered_cells (s ∷ ss) ≡ suc (unanswered_cells (if b then (record { owner = s.owner; key = s.key; answer = Some answer }) ∷ ss else (s ∷ filled ss key answer)))
    by_key true f g ih = rw g refl
    by_key false f g ih = by_answer (is_some s.answer) (ih (later f h.0 h.1 h.2) g)
      where
        by_answer : (t : Bool) → unanswered_cells ss ≡ suc (unanswered_cells (filled ss key answer)) → (if t then unanswered_cells ss else suc (unanswered_cells ss)) ≡ suc (if t then unanswered_cells (filled ss key answer) else suc (unanswered_cells (filled ss key answer)))
        by_answer true q = q
        by_answer false q = ap suc q
