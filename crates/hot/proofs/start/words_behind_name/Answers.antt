use Rattle.std.proofs.Common.{◌≡◌, ℕ, zero, suc, ◌<◌, List, [], ◌∷◌, ◌++◌, map, drop, arith, refl, sym, ap, ◌∙◌, string_bytes}
use Rattle.std.specs.Prelude.{Option, Some, None, IsSome, ◌↔◌}
use Rattle.std.specs.Option.{option_to_list}
use Rattle.std.specs.Iterator.{Yields}
use Rattle.std.proofs.lemmas.List.{map-append, append-nil, nil_from_length}
use Rattle.std.specs.Vec.Iter.{into_iter_items, into_iter_len, into_iter_steps}
use Rattle.std.specs.declared.vec.IntoIter.{IntoIter}
use Rattle.hot.proofs.start.words_behind_name.Goals as goal

pub words-init : goal.words-init
words-init c = c.new-words.ensures.empty

-- one more argument is one more word
pub words-preserved : goal.words-preserved
words-preserved c =
    c.in_ok-push.ensures.appended
    ∙ (ap (λ ws. ws ++ c.as_str.result.now ∷ []) c.words.invariant
    ∙ (ap (λ w. map string_bytes c.words.yielded ++ w ∷ []) c.as_str.ensures.value
    ∙ sym (map-append string_bytes c.words.yielded (c.in-Some.word ∷ []))))

-- what the iterator of a vector has given is a front of its items
taken_front : {X A : Type 0} (s : IntoIter X A) (xs : List X) (t : IntoIter X A) → Yields into_iter_steps s xs t → into_iter_items s ≡ xs ++ into_iter_items t
taken_front s [] t y = ap into_iter_items y
taken_front s (x ∷ xs) t y = y.1.0 ∙ ap (λ ys. x ∷ ys) (taken_front y.0 xs t y.2)

-- an iterator at its end has no items
none_left : {X A : Type 0} (s : IntoIter X A) → into_iter_len s ≡ 0 → into_iter_items s ≡ []
none_left s at = nil_from_length (into_iter_items s) (sym s.rest.ok.0 ∙ at)

-- a number that is not above 0 is 0
no_number : (n : ℕ) → (0 < n → ⊥) → n ≡ 0
no_number zero none = refl
no_number (suc n) none = absurd (none (omega (arith)))

-- behind its first item an iterator has the others
behind_first : {X A : Type 0} (s t : IntoIter X A) (first : Option X) → into_iter_items s ≡ option_to_list first ++ into_iter_items t → (IsSome first ↔ (0 < into_iter_len s)) → into_iter_items t ≡ drop 1 (into_iter_items s)
behind_first s t (Some x) items has = ap (drop 1) (sym items)
behind_first s t None items has =
    let none : into_iter_len s ≡ 0 = no_number (into_iter_len s) (λ some. let told = has.1 some in absurd cc) in
    sym items ∙ (none_left s none ∙ ap (drop 1) (sym (none_left s none)))

-- all arguments behind the first were given
pub returns : goal.returns
returns c =
    let it = c.into_iter-word-iterator.result in
    let given = taken_front it c.words.yielded c.words.word-iterator c.words.yielded_by in
    let whole : into_iter_items it ≡ c.words.yielded =
    given ∙ (ap (λ ys. c.words.yielded ++ ys) (none_left c.words.word-iterator c.in-None.ensures.steps.0) ∙ append-nil c.words.yielded) in
    let behind = behind_first c.args.arguments c.next.new.self c.next.result c.next.ensures.items c.next.ensures.variant in
    record {
      words = c.words.invariant
          ∙ ap (map string_bytes) (sym whole ∙ (ap into_iter_items c.into_iter-word-iterator.ensures.into_iter_gives ∙ behind));
    }
