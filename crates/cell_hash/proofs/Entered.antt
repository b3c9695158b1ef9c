-- Pairs of keys and values as a finite map.
use Rattle.std.proofs.Common.{ℕ, zero, suc, ◌≡◌, ◌≢◌, ◌<◌, ◌≤◌, Bool, true, false, List, [], ◌∷◌, ◌++◌, length, get_or, set, refl, sym, ap, ◌∙◌, subst, inl, inr, arith, length-append}
use Rattle.std.specs.Prelude.{Option, Some, None, slice_get, cond}
use Rattle.std.specs.Ordering.{nat_cmp, eq_by_cmp}
use Rattle.std.specs.Cmp.{nat_cmp_total, unsigned_tied}
use Rattle.std.specs.FinMap as map
use Rattle.std.proofs.lemmas.Bool.{eqb-true, ne_eqb, eq-eqb, cases_lt}
use Rattle.std.proofs.Math.Seq.{get_or-append_seam}
use Rattle.std.proofs.lemmas.List.{get_or_append_left}
use Rattle.cell_hash.specs.Entries.{pairs_of, StandsAt, IsAbsentFrom, AreApart}

-- two numbers tie where they are equal, and else do not
tied : (a : ℕ) → eq_by_cmp nat_cmp a a ≡ true
tied a = unsigned_tied a a ∙ eq-eqb a a refl

not_tied : (a b : ℕ) → a ≢ b → eq_by_cmp nat_cmp a b ≡ false
not_tied a b apart = unsigned_tied a b ∙ ne_eqb a b apart

-- the rest of a list of keys
absent_below : (k : ℕ) (ks : List ℕ) (key : ℕ) → IsAbsentFrom (k ∷ ks) 0 key → IsAbsentFrom ks 0 key
absent_below k ks key absent i low high e = absent (suc i) (omega arith) (omega (arith, high)) e

apart_below : (k : ℕ) (ks : List ℕ) → AreApart (k ∷ ks) → AreApart ks
apart_below k ks apart i j a b e = (let f : suc i ≡ suc j = apart (suc i) (suc j) (omega (arith, a)) (omega (arith, b)) e in omega (arith, f))

-- where no key stands twice, the first key stands nowhere else
first_apart : (k : ℕ) (ks : List ℕ) → AreApart (k ∷ ks) → IsAbsentFrom ks 0 k
first_apart k ks apart i low high e = (let f : suc i ≡ 0 = apart (suc i) 0 (omega (arith, high)) (omega arith) e in omega (arith, f))

module _ {T : Type 0} where
  -- a key that stands nowhere has no value
  pub find_absent : (keys : List ℕ) (values : List T) (key : ℕ) → IsAbsentFrom keys 0 key → map.find nat_cmp key (pairs_of keys values) ≡ None
  find_absent [] values key absent = refl
  find_absent (k ∷ ks) [] key absent = refl
  find_absent (k ∷ ks) (v ∷ vs) key absent =
      rw (not_tied key k (λ e. absent 0 (omega arith) (omega arith) (sym e))) (find_absent ks vs key (absent_below k ks key absent))

  -- a key has the value at its place
  pub find_at : (keys : List ℕ) (values : List T) (place key : ℕ) → length values ≡ length keys → AreApart keys → StandsAt keys place key → map.find nat_cmp key (pairs_of keys values) ≡ slice_get values place
  find_at [] values place key long apart at = absurd (omega (arith, at.within))
  find_at (k ∷ ks) [] place key long apart at = absurd (omega (arith, long))
  find_at (k ∷ ks) (v ∷ vs) zero key long apart at = rw (subst (λ (x : ℕ). eq_by_cmp nat_cmp x k ≡ true) at.key_is (tied k)) refl
  find_at (k ∷ ks) (v ∷ vs) (suc place) key long apart at =
      let below : StandsAt ks place key = record { within = omega (arith, at.within); key_is = at.key_is } in
      rw (not_tied key k (λ e. first_apart k ks apart place (omega arith) below.within (below.key_is ∙ e)))
      (find_at ks vs place key (omega (arith, long)) (apart_below k ks apart) below)

  swapped : (a b : Bool) (x y z : Option T) → (a ≡ true → b ≡ true → ⊥) → cond a x (cond b y z) ≡ cond b y (cond a x z)
  swapped true true x y z apart = absurd (apart refl refl)
  swapped true false x y z apart = refl
  swapped false true x y z apart = refl
  swapped false false x y z apart = refl

  shadowed : (b : Bool) (x y z : Option T) → cond b x z ≡ cond b x (cond b y z)
  shadowed true x y z = refl
  shadowed false x y z = refl

  -- a value is set at the place of its key
  find_set : (keys : List ℕ) (values : List T) (place key : ℕ) (value : T) (q : ℕ) → length values ≡ length keys → AreApart keys → StandsAt keys place key
      → map.find nat_cmp q (pairs_of keys (set values place value)) ≡ cond (eq_by_cmp nat_cmp q key) (Some value) (map.find nat_cmp q (pairs_of keys values))
  find_set [] values place key value q long apart at = absurd (omega (arith, at.within))
  find_set (k ∷ ks) [] place key value q long apart at = absurd (omega (arith, long))
  find_set (k ∷ ks) (v ∷ vs) zero key value q long apart at = rw at.key_is (shadowed (eq_by_cmp nat_cmp q key) (Some value) (Some v) (map.find nat_cmp q (pairs_of ks vs)))
  find_set (k ∷ ks) (v ∷ vs) (suc place) key value q long apart at =
      let below : StandsAt ks place key = record { within = omega (arith, at.within); key_is = at.key_is } in
      let rest : map.find nat_cmp q (pairs_of ks (set vs place value)) ≡ cond (eq_by_cmp nat_cmp q key) (Some value) (map.find nat_cmp q (pairs_of ks vs)) = find_set ks vs place key value q (omega (arith, long)) (apart_below k ks apart) below in
      rw rest (swapped (eq_by_cmp nat_cmp q k) (eq_by_cmp nat_cmp q key) _ _ _ (λ a b.
      first_apart k ks apart place (omega arith) below.within (below.key_is ∙ sym (eqb-true q key (sym (unsigned_tied q key) ∙ b)) ∙ eqb-true q k (sym (unsigned_tied q k) ∙ a))))

  -- what a look-up answers
  pub get_absent : (keys : List ℕ) (values : List T) (key : ℕ) → IsAbsentFrom keys 0 key → map.get (map.from_entries {R = nat_cmp} (pairs_of keys values)) key ≡ None
  get_absent keys values key absent = map.get-from_entries nat_cmp_total (pairs_of keys values) key ∙ find_absent keys values key absent

  -- the value of a key stands where the key does
  pub get_at : (keys : List ℕ) (values : List T) (place key : ℕ) → length values ≡ length keys → AreApart keys → StandsAt keys place key → map.get (map.from_entries {R = nat_cmp} (pairs_of keys values)) key ≡ slice_get values place
  get_at keys values place key long apart at = map.get-from_entries nat_cmp_total (pairs_of keys values) key ∙ find_at keys values place key long apart at

  -- a value that is set at the place of its key is inserted
  pub set_inserts : (keys : List ℕ) (values : List T) (place key : ℕ) (value : T) → length values ≡ length keys → AreApart keys → StandsAt keys place key
      → map.from_entries {R = nat_cmp} (pairs_of keys (set values place value)) ≡ map.insert (map.from_entries (pairs_of keys values)) key value
  set_inserts keys values place key value long apart at = map.same_map nat_cmp_total map.nat_cmp-IsAntisymmetric _ _ (λ q.
      map.get-from_entries nat_cmp_total (pairs_of keys (set values place value)) q
      ∙ find_set keys values place key value q long apart at
      ∙ ap (cond (eq_by_cmp nat_cmp q key) (Some value)) (sym (map.get-from_entries nat_cmp_total (pairs_of keys values) q))
      ∙ sym (map.get-insert nat_cmp_total (map.from_entries (pairs_of keys values)) key value q))

  pairs_pushed : (keys : List ℕ) (values : List T) (key : ℕ) (value : T) → length values ≡ length keys → pairs_of (keys ++ key ∷ []) (values ++ value ∷ []) ≡ pairs_of keys values ++ (key, value) ∷ []
  pairs_pushed [] [] key value long = refl
  pairs_pushed [] (v ∷ vs) key value long = absurd (omega (arith, long))
  pairs_pushed (k ∷ ks) [] key value long = absurd (omega (arith, long))
  pairs_pushed (k ∷ ks) (v ∷ vs) key value long = ap (λ ps. (k, v) ∷ ps) (pairs_pushed ks vs key value (omega (arith, long)))

  -- a key that stands nowhere is inserted behind the others
  pub push_inserts : (keys : List ℕ) (values : List T) (key : ℕ) (value : T) → length values ≡ length keys → IsAbsentFrom keys 0 key
      → map.from_entries {R = nat_cmp} (pairs_of (keys ++ key ∷ []) (values ++ value ∷ [])) ≡ map.insert (map.from_entries (pairs_of keys values)) key value
  push_inserts keys values key value long absent =
      ap (map.from_entries {R = nat_cmp}) (pairs_pushed keys values key value long)
      ∙ map.from_entries_push nat_cmp_total map.nat_cmp-IsAntisymmetric (pairs_of keys values) key value (find_absent keys values key absent)

  -- the map has as many keys as the list
  pub len_of : (keys : List ℕ) (values : List T) → length values ≡ length keys → AreApart keys → map.len (map.from_entries {R = nat_cmp} (pairs_of keys values)) ≡ length keys
  len_of [] values long apart = map.len-empty nat_cmp T
  len_of (k ∷ ks) [] long apart = absurd (omega (arith, long))
  len_of (k ∷ ks) (v ∷ vs) long apart =
      map.len-insert nat_cmp_total (map.from_entries (pairs_of ks vs)) k v
      ∙ rw (get_absent ks vs k (first_apart k ks apart)) (omega (arith, len_of ks vs (omega (arith, long)) (apart_below k ks apart)))

-- keys stay apart where one is added that stands nowhere
pub apart_grows : (keys : List ℕ) (key : ℕ) → AreApart keys → IsAbsentFrom keys 0 key → AreApart (keys ++ key ∷ [])
apart_grows keys key apart absent i j a b e = elim (cases_lt i (length keys)) [
  | inl low ↦ elim (cases_lt j (length keys)) [
    | inl low' ↦ apart i j low low' (sym (front i low) ∙ e ∙ front j low')
    | inr high' ↦ absurd (absent i (omega arith) low (sym (front i low) ∙ e ∙ back j high' b))
  ]
  | inr high ↦ elim (cases_lt j (length keys)) [
    | inl low' ↦ absurd (absent j (omega arith) low' (sym (front j low') ∙ sym e ∙ back i high a))
    | inr high' ↦ omega (arith, high, high', a, b, length-append keys (key ∷ []))
  ]
]
  where
    front : (n : ℕ) → n < length keys → get_or (keys ++ key ∷ []) n 0 ≡ get_or keys n 0
    front n low = get_or_append_left keys (key ∷ []) 0 n low

    back : (n : ℕ) → length keys ≤ n → n < length (keys ++ key ∷ []) → get_or (keys ++ key ∷ []) n 0 ≡ key
    back n high within = let last : n ≡ length keys = omega (arith, high, within, length-append keys (key ∷ [])) in rw last (get_or-append_seam keys key [] 0)
