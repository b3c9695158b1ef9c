-- Records by descending key.
use Rattle.std.proofs.Common.{ℕ, ◌≡◌, ◌+◌, ◌-◌, ◌<◌, ◌≤◌, Bool, true, false, Some, None, List, [], ◌∷◌, ◌++◌, length, get_or, sym, ap, ◌∙◌, subst, inl, inr, arith, length-append}
use Rattle.std.specs.Prelude.{All, ◌≢◌, if◌then◌else◌}
use Rattle.std.proofs.lemmas.Bool.{cases_lt, ne_eqb}
use Rattle.std.proofs.lemmas.List.{get_or_default, get_or_append_left, get_or_at}
use Rattle.std.proofs.lemmas.List.Elements.{All-push}
use Rattle.hot_units.specs.Values.{BodyValue, CellValue}
use Rattle.hot_model.specs.Trees.{inside, is_empty, cell_record, record_at}
use Rattle.local_tree.specs.Pieces.{IsFalling, AreKnown}

-- the key of a record
abbrev pub key_in : CellValue → ℕ
key_in r = r.key

here : (recs : List CellValue) (m : ℕ) (r d : CellValue) → m < length recs → r ≡ get_or recs m r → key_in (get_or recs m d) ≡ key_in r
here recs m r d h at = ap key_in (get_or_default recs m d r h ∙ sym at)

-- up to a record with a greater key all keys are greater
pub more-upto : (recs : List CellValue) (key m : ℕ) (r : CellValue) → IsFalling recs → m < length recs → r ≡ get_or recs m r → key < r.key → (k : ℕ) (d : CellValue) → k < m + 1 → key < (get_or recs k d).key
more-upto recs key m r o h at l k d p = omega (arith, o k m d (omega (arith, p)) h, here recs m r d h at, l)

-- from a record with no greater key on no key is greater
pub less-from : (recs : List CellValue) (key m : ℕ) (r : CellValue) → IsFalling recs → m < length recs → r ≡ get_or recs m r → r.key ≤ key → (k : ℕ) (d : CellValue) → m ≤ k → k < length recs → (get_or recs k d).key ≤ key
less-from recs key m r o h at l k d p q = omega (arith, o m k d p q, here recs m r d h at, l)

-- where the first key that is not greater is another, none is the same
pub none-here : (recs : List CellValue) (key low : ℕ) (r : CellValue) → IsFalling recs → ((k : ℕ) (d : CellValue) → k < low → key < (get_or recs k d).key) → ((k : ℕ) (d : CellValue) → low ≤ k → k < length recs → (get_or recs k d).key ≤ key) → low < length recs → r ≡ get_or recs low r → r.key ≢ key → All (λ r. r.key ≢ key) recs
none-here recs key low r o u v h at ne k d p same =
    elim (cases_lt k low) [
      | inl q ↦ omega (arith, u k d q, same)
      | inr q ↦
          let most : key_in (get_or recs low d) ≤ key = v low d (omega arith) h in
          let e : key_in (get_or recs low d) ≡ key_in r = here recs low r d h at in
          let down : key_in (get_or recs k d) ≤ key_in (get_or recs low d) = o low k d q p in
          ne (omega (arith, most, e, down, same))
    ]

-- a record with a smaller key than the last goes behind it
pub falling-push : (recs : List CellValue) (r : CellValue) → IsFalling recs → ((d : CellValue) → 0 < length recs → r.key < (get_or recs (length recs - 1) d).key) → IsFalling (recs ++ r ∷ [])
falling-push recs r o h i j d low up =
    elim (cases_lt j (length recs)) [
      | inl p ↦
          let e : get_or (recs ++ r ∷ []) j d ≡ get_or recs j d = get_or_append_left recs (r ∷ []) d j p in
          let f : get_or (recs ++ r ∷ []) i d ≡ get_or recs i d = get_or_append_left recs (r ∷ []) d i (omega (arith, low, p)) in
          rw (e, f) (o i j d low p)
      | inr p ↦
          let n : j ≡ length recs = omega (arith, p, up, length-append recs (r ∷ [])) in
          let e : get_or (recs ++ r ∷ []) j d ≡ r = get_or_at recs r [] d j (sym n) in
          elim (cases_lt i (length recs)) [
            | inl q ↦
                let f : get_or (recs ++ r ∷ []) i d ≡ get_or recs i d = get_or_append_left recs (r ∷ []) d i q in
                let a : key_in (get_or recs (length recs - 1) d) ≤ key_in (get_or recs i d) = o i (length recs - 1) d (omega (arith, q)) (omega (arith, q)) in
                rw (e, f) (omega (arith, a, h d (omega (arith, q))))
            | inr q ↦
                let f : get_or (recs ++ r ∷ []) i d ≡ r = get_or_at recs r [] d i (omega (arith, n, low, q)) in
                rw (e, f) (omega arith)
          ]
    ]

-- a record that was found for a cell is that over its bodies
record-found : (bodies : List BodyValue) (key : ℕ) (r : CellValue) (t : Bool) → Some r ≡ (if t then None else Some (cell_record bodies key)) → r ≡ cell_record bodies key
record-found bodies key r true e = cc
record-found bodies key r false e = cc

-- a known record is that over the bodies of its cell
pub record-of-known : (bodies : List BodyValue) (recs : List CellValue) (i : ℕ) (r : CellValue) → AreKnown bodies recs → i < length recs → r ≡ get_or recs i r → r ≡ cell_record bodies r.key
record-of-known bodies recs i r all h at =
    let own : record_at bodies r.key ≡ Some r = subst (λ (z : CellValue). record_at bodies z.key ≡ Some z) (sym at) (all i r h) in
    record-found bodies r.key r (is_empty (inside bodies r.key)) (sym own)

-- the record of a cell with bodies goes behind known records
pub known-push : (bodies : List BodyValue) (key : ℕ) (recs : List CellValue) (r : CellValue) → AreKnown bodies recs → 0 < length (inside bodies key) → r ≡ cell_record bodies key → AreKnown bodies (recs ++ r ∷ [])
known-push bodies key recs r all some e =
    let full : is_empty (inside bodies key) ≡ false = ne_eqb _ _ (λ z. omega (arith, z, some)) in
    let k : r.key ≡ key = ap key_in e in
    let own : record_at bodies r.key ≡ Some r = ap (record_at bodies) k ∙ (rw full (ap Some (sym e))) in
    All-push (λ (r : CellValue). record_at bodies r.key ≡ Some r) recs r all own
