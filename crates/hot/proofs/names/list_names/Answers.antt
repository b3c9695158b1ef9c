use Rattle.std.proofs.Common.{◌≡◌, ℕ, ◌+◌, ◌-◌, List, [], ◌∷◌, ◌++◌, length, arith, sym, ap, ◌∙◌, subst}
use Rattle.std.specs.Prelude.{take, drop}
use Rattle.std.proofs.lemmas.List.{map-append, take_more, get_or-drop, length-drop}
use Rattle.std.proofs.lemmas.Option.{get_or_from_slice_get, slice_get_within}
use Rattle.std.specs.Prelude.{slice_get, Option, Some, MatchOption, ◌≤◌}
use Rattle.std.specs.Borrow.{Bor}
use Rattle.hot_words.specs.Names.{names_at}
use Rattle.hot.proofs.names.list_names.Goals as goal

-- the words from a place on, with one more
one_more : (words : List (List ℕ)) (first k : ℕ) (word : List ℕ) → slice_get words (first + k) ≡ Some word → names_at first (k + 1) words ≡ names_at first k words ++ word ∷ []
one_more words first k word at =
    let there = slice_get_within words (first + k) word at in
    take_more (drop first words) k [] (let n = length-drop first words in omega (arith, there, n))
    ∙ ap (λ w. take k (drop first words) ++ w ∷ []) (get_or-drop first words k [] ∙ get_or_from_slice_get words (first + k) word [] at)

-- one more word is one more name
pub names-preserved : goal.names-preserved
names-preserved c =
    let first = c.args.first in
    let place = c.names.place in
    let at : slice_get c.args.words.now place ≡ Some c.unwrap.result.now =
    subst (λ (o : Option (Bor (List ℕ))). MatchOption o (length c.args.words.now ≤ place) (λ (w : Bor (List ℕ)). slice_get c.args.words.now place ≡ Some w.now)) c.unwrap.ensures c.get.ensures.word in
    let step : first + (place - first) ≡ place = (let low = c.names.auto.place in omega (arith, low)) in
    let next : (place - first) + 1 ≡ (place + 1) - first = (let low = c.names.auto.place in omega (arith, low)) in
    let here : slice_get c.args.words.now (first + (place - first)) ≡ Some c.unwrap.result.now = rw step at in
    rw (c.push-in-names.ensures.items, map-append (λ (name : Bor (List ℕ)). name.now) c.names.names.items (c.unwrap.result ∷ []), c.names.invariant)
    (sym (sym (ap (λ (k : ℕ). names_at first k c.args.words.now) next) ∙ one_more c.args.words.now first (place - first) c.unwrap.result.now here))
