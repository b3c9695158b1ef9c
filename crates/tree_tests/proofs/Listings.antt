-- Bodies that are listed one by one, and scans of such a list.
use Rattle.std.proofs.Common.{ℕ, zero, suc, ◌≡◌, ◌+◌, ◌-◌, ◌<◌, ◌≤◌, Bool, true, false, cond, eqb, List, [], ◌∷◌, ◌++◌, length, filter, take, get_or, refl, sym, ap, ◌∙◌, arith, inl, inr, length-append}
use Rattle.std.specs.Prelude.{◌&&◌, if◌then◌else◌, Some, slice_get, Option, option_to_list}
use Rattle.std.specs.List.{list_all}
use Rattle.std.proofs.lemmas.Bool.{cases_lt, le-ltb}
use Rattle.std.proofs.lemmas.Bool.Decides.{nat_tests}
use Rattle.std.proofs.lemmas.List.{get_or_append_left, get_or_push, append-nil}
use Rattle.std.proofs.lemmas.List.Elements.{All-push, filter_more}
use Rattle.std.proofs.lemmas.List.Folds.{list_all-append}
use Rattle.std.proofs.lemmas.List.Kept.{IsSortedBy-push}
use Rattle.std.proofs.lemmas.List.Sums.{sum_by-cons, sum_by-append}
use Rattle.hot_units.specs.Limits.{max_bodies, max_all_mass}
use Rattle.hot_units.specs.Values.{BodyValue, CellValue}
use Rattle.hot_units.specs.Keys.{key_of_body, child}
use Rattle.hot_units.specs.Order.{before}
use Rattle.hot_units.specs.Bodies.{RowsCount, IsBody, mass_of}
use Rattle.rank_model.specs.World.{World, rank_of, record_in}
use Rattle.rank_model.specs.Branches.{first_rank, one_rank}
use Rattle.defer_walk.proofs.Descents.{records_to, records_more}
use Rattle.defer_walk.specs.Listing.{IsListing}

not_before : (a b : BodyValue) → key_of_body b ≤ key_of_body a → b.row ≤ a.row → before a b ≡ false
unfolding before
not_before a b h k = rw (le-ltb (key_of_body a) (key_of_body b) h, le-ltb a.row b.row k) (elim (eqb (key_of_body a) (key_of_body b)) as (λ (t : Bool). (t && false) ≡ false) [ true ↦ refl | false ↦ refl ])

rows_more : (xs : List BodyValue) (b : BodyValue) → RowsCount xs → b.row ≡ length xs → RowsCount (xs ++ b ∷ [])
rows_more xs b h e i d k =
    elim (cases_lt i (length xs)) [
      | inl p ↦ rw (get_or_append_left xs (b ∷ []) d i p) (h i d p)
      | inr p ↦ let q : i ≡ length xs = omega (arith, length-append xs (b ∷ []), p, k) in rw (q, get_or_push) e
    ]

-- the mass of one more body
pub mass_more : (xs : List BodyValue) (b : BodyValue) → mass_of (xs ++ b ∷ []) ≡ mass_of xs + b.mass
mass_more xs b = omega (arith, sum_by-append (λ (o : BodyValue). o.mass) xs (b ∷ []), sum_by-cons (λ (o : BodyValue). o.mass) b [])

-- one more body, whose key is not below that of the last
pub listing_more : (xs : List BodyValue) (b : BodyValue) → IsListing xs → IsBody b → length xs < max_bodies → b.row ≡ length xs
    → mass_of xs + b.mass ≤ max_all_mass
    → ((d : BodyValue) → 0 < length xs → key_of_body (get_or xs (length xs - 1) d) ≤ key_of_body b) → IsListing (xs ++ b ∷ [])
listing_more xs b h i few row light last = record {
  sound = All-push IsBody xs b h.sound i;
  in_order = IsSortedBy-push before xs b h.in_order (λ d p. not_before b (get_or xs (length xs - 1) d) (last d p) (let r = h.counted (length xs - 1) d (omega (arith, p)) in omega (arith, r, row)));
  few = omega (arith, length-append xs (b ∷ []), few);
  counted = rows_more xs b h.counted row;
  light = omega (arith, mass_more xs b, light);
}

-- how a filtered list grows by one item
pub ruleset on_members = (filter_more, append-nil, length-append)

-- a member of a filtered list by how many members stand before it
pub found : {X : Type 0} (p : X → Bool) (xs : List X) (j : ℕ) (d : X) → j < length xs → p (get_or xs j d) ≡ true → slice_get (filter p xs) (length (filter p (take j xs))) ≡ Some (get_or xs j d)
found p [] j d h e = absurd (omega (arith, h))
found p (x ∷ xs) zero d h e = rw e refl
found {X} p (x ∷ xs) (suc j) d h e =
    let rest = found p xs j d (omega (arith, h)) e in
    elim (p x) as (λ (t : Bool). slice_get (cond t (x ∷ filter p xs) (filter p xs)) (length (cond t (x ∷ filter p (take j xs)) (filter p (take j xs)))) ≡ Some (get_or xs j d)) [
      | true ↦ rest
      | false ↦ rest
    ]

-- what a scan of a list knows: how many bodies, the rank of the first, and whether all are of that rank
pub record Scanned (w : World) (xs : List BodyValue) (owner : ℕ) (one : Bool) (count : ℕ) : Type 0 where
  pub counted : count ≡ length xs
  pub owner_is : owner ≡ first_rank w xs
  pub one_is : one ≡ one_rank w xs

and_true : (a : Bool) → (a && true) ≡ a
and_true true = refl
and_true false = refl

-- with one more body
pub scanned_more : (w : World) (xs : List BodyValue) (b : BodyValue) (owner next : ℕ) (one : Bool) (count : ℕ) → Scanned w xs owner one count
    → next ≡ (if eqb count 0 then rank_of w b else owner) → Scanned w (xs ++ b ∷ []) next (one && eqb (rank_of w b) next) (count + 1)
scanned_more w [] b owner next one count h e =
    let z : count ≡ 0 = h.counted in
    let n : next ≡ rank_of w b = (rw z at e) in
    record {
      counted = omega (arith, h.counted);
      owner_is = n;
      one_is = rw (n, h.one_is) (sym (and_true (eqb (rank_of w b) (rank_of w b))));
    }
scanned_more w (x ∷ xs) b owner next one count h e =
    let z : eqb count 0 ≡ false = (let c = h.counted in grind (arith, nat_tests)) in
    let n : next ≡ owner = (rw z at e) in
    record {
      counted = omega (arith, h.counted, length-append (x ∷ xs) (b ∷ []));
      owner_is = n ∙ h.owner_is;
      one_is =
          rw (n, h.owner_is, h.one_is) (
          list_step (λ c. eqb (rank_of w c) (rank_of w x)) (x ∷ xs) b);
    }
  where
    list_step : (p : BodyValue → Bool) (ys : List BodyValue) (c : BodyValue) → (list_all p ys && p c) ≡ list_all p (ys ++ c ∷ [])
    list_step p ys c = ap (λ (t : Bool). list_all p ys && t) (sym (and_true (p c))) ∙ sym (list_all-append p ys (c ∷ []))

-- a filtered list of the first items, with the next one
pub more_true : {X : Type 0} (p : X → Bool) (xs : List X) (i : ℕ) (b : X) → i < length xs → b ≡ get_or xs i b → p b ≡ true → filter p (take (i + 1) xs) ≡ filter p (take i xs) ++ b ∷ []
more_true {X} p xs i b h e t =
    filter_more p xs i b h ∙ ap (λ (z : X). filter p (take i xs) ++ cond (p z) (z ∷ []) []) (sym e) ∙ ap (λ (u : Bool). filter p (take i xs) ++ cond u (b ∷ []) []) t

-- and with one that is left out
pub more_false : {X : Type 0} (p : X → Bool) (xs : List X) (i : ℕ) (b : X) → i < length xs → b ≡ get_or xs i b → p b ≡ false → filter p (take (i + 1) xs) ≡ filter p (take i xs)
more_false {X} p xs i b h e t =
    filter_more p xs i b h ∙ ap (λ (z : X). filter p (take i xs) ++ cond (p z) (z ∷ []) []) (sym e) ∙ ap (λ (u : Bool). filter p (take i xs) ++ cond u (b ∷ []) []) t ∙ append-nil (filter p (take i xs))

-- a scan of a filtered list goes on with one item
pub scanned_step : (w : World) (p : BodyValue → Bool) (xs : List BodyValue) (i : ℕ) (b : BodyValue) (owner next : ℕ) (one one' : Bool) (count count' : ℕ)
    → i < length xs → b ≡ get_or xs i b → p b ≡ true → Scanned w (filter p (take i xs)) owner one count
    → next ≡ (if eqb count 0 then rank_of w b else owner) → one' ≡ (one && eqb (rank_of w b) next) → count' ≡ count + 1
    → Scanned w (filter p (take (i + 1) xs)) next one' count'
scanned_step w p xs i b owner next one one' count count' h e t s n o c =
    rw (more_true p xs i b h e t, o, c) (scanned_more w (filter p (take i xs)) b owner next one count s n)

-- or passes over one
pub scanned_skip : (w : World) (p : BodyValue → Bool) (xs : List BodyValue) (i : ℕ) (b : BodyValue) (owner next : ℕ) (one one' : Bool) (count count' : ℕ)
    → i < length xs → b ≡ get_or xs i b → p b ≡ false → Scanned w (filter p (take i xs)) owner one count
    → next ≡ owner → one' ≡ one → count' ≡ count
    → Scanned w (filter p (take (i + 1) xs)) next one' count'
scanned_skip w p xs i b owner next one one' count count' h e t s n o c =
    rw (more_false p xs i b h e t, n, o, c) s

-- one more child, or none
pub push_record : (w : World) (c i : ℕ) (o : Option CellValue) (old new : List CellValue) → i < 8 → o ≡ record_in w (child c i) → old ≡ records_to w c i → new ≡ old ++ option_to_list o → new ≡ records_to w c (i + 1)
push_record w c i o old new h e f g =
    g ∙ ap (λ (rs : List CellValue). rs ++ option_to_list o) f ∙ ap (λ (x : Option CellValue). records_to w c i ++ option_to_list x) e ∙ sym (records_more w c i h)
