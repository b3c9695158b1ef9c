-- Some steps, one after the other.
use Rattle.std.proofs.Common.{◌≡◌, ℕ, zero, suc, ◌+◌, ◌-◌, ◌<◌, ◌≤◌, List, [], ◌∷◌, ◌++◌, Ok, Err, refl, sym, subst, ◌∙◌, ap, append_assoc, arith}
use Rattle.std.proofs.lemmas.List.{append-nil}
use Rattle.hot_units.specs.Values.{BodyValue}
use Rattle.hot_model.specs.Trees.{Settings, force}
use Rattle.leap_frog.specs.Leap.{Moving, ForceLaw, Leaver, step, steps, steps_from}
use Rattle.leap_frog.specs.Calls.{CallOf, Rules, Course, Answered, Broke, BrokeIn, StepLeaves, StepsAnswer, StepsLeave, asked_for, asked_in, at_step}
use Rattle.leap_frog.specs.States.{StepAnswers}
use Rattle.leap_frog.specs.declared.refused.StepRefused.{StepRefused}
use Rattle.leap_frog.specs.declared.refused.StepRefused.TheVariants.{Leaves, Memory}
use Rattle.leap_frog.specs.declared.refused.StepsRefused.{StepsRefused}
use Rattle.leap_frog.proofs.Undo.{parts, one-more}

-- ---- a last step that is not made

-- a state from which a step is not made, behind n steps: no more steps are made
pub stopped : (law : ForceLaw) (k n m : ℕ) (s t : List Moving) (l : Leaver) → steps_from law k n s ≡ Ok t → step law t ≡ Err l → steps_from law k (n + suc m) s ≡ Err (record { number = k + n; leaver = l })
unfolding steps_from
stopped law k zero m s t l h e =
    let same : s ≡ t = cc in
    let here : step law s ≡ Err l = ap (step law) same ∙ e in
    let z : 0 + suc m ≡ suc m = omega arith in
    let w : k + 0 ≡ k = omega arith in
    rw (z, w, steps_from, here) refl
stopped law k (suc n) m s t l h e =
    let p = parts law k n s t h in
    let rest = stopped law (suc k) n m p.between t l p.others e in
    let z : suc n + suc m ≡ suc (n + suc m) = omega arith in
    let w : suc k + n ≡ k + suc n = omega arith in
    rw (z, steps_from, p.first, ← w) rest

-- ---- calls

-- calls that were answered, and more behind them
pub answered-append : {E L : Type 0} (answers : CallOf E L) (xs ys : List (List BodyValue)) (e : E) (l : L) (d : E) (j : L) (f : E) (k : L) → Answered answers xs e l d j → Answered answers ys d j f k → Answered answers (xs ++ ys) e l f k
answered-append {E} {L} answers [] ys e l d j f k (p, q) more =
    let P : E → Type 0 = λ x. Answered answers ys x j f k in
    let Q : L → Type 0 = λ x. Answered answers ys e x f k in
    subst Q q (subst P p more)
answered-append answers (x ∷ xs) ys e l d j f k (b, c, first, others) more = (b, c, first, answered-append answers xs ys b c d j f k others more)

-- the calls of a first step and of the others
asked-suc : (law : ForceLaw) (n : ℕ) (s b : List Moving) → step law s ≡ Ok b → asked_in law (suc n) s ≡ asked_for law s ++ asked_in law n b
unfolding asked_in
asked-suc law n s b e = rw (asked_in, e) refl

-- the calls of a first step that is not made
asked-err : (law : ForceLaw) (n : ℕ) (s : List Moving) (l : Leaver) → step law s ≡ Err l → asked_in law (suc n) s ≡ asked_for law s
unfolding asked_in
asked-err law n s l e = rw (asked_in, e) refl

-- no step makes no call
asked-zero : (law : ForceLaw) (s : List Moving) → asked_in law zero s ≡ []
unfolding asked_in
asked-zero law s = refl

-- the calls of n steps and of one more
pub asked-more : (law : ForceLaw) (k n : ℕ) (s t u : List Moving) → steps_from law k n s ≡ Ok t → step law t ≡ Ok u → asked_in law (suc n) s ≡ asked_in law n s ++ asked_for law t
unfolding steps_from
asked-more law k zero s t u h e =
    let same : s ≡ t = cc in
    asked-suc law zero s u (ap (step law) same ∙ e)
    ∙ (ap (λ (x : List (List BodyValue)). asked_for law s ++ x) (asked-zero law u)
    ∙ (append-nil (asked_for law s) ∙ (ap (asked_for law) same ∙ ap (λ (x : List (List BodyValue)). x ++ asked_for law t) (sym (asked-zero law s)))))
asked-more law k (suc n) s t u h e =
    let p = parts law k n s t h in
    let rest = asked-more law (suc k) n p.between t u p.others e in
    asked-suc law (suc n) s p.between p.first
    ∙ (ap (λ (x : List (List BodyValue)). asked_for law s ++ x) rest
    ∙ (sym (append_assoc (asked_for law s) (asked_in law n p.between) (asked_for law t))
    ∙ ap (λ (x : List (List BodyValue)). x ++ asked_for law t) (sym (asked-suc law n s p.between p.first))))

-- the calls of n steps, and of one that is not made
pub asked-stopped : (law : ForceLaw) (k n m : ℕ) (s t : List Moving) (l : Leaver) → steps_from law k n s ≡ Ok t → step law t ≡ Err l → asked_in law (n + suc m) s ≡ asked_in law n s ++ asked_for law t
unfolding steps_from
asked-stopped law k zero m s t l h e =
    let same : s ≡ t = cc in
    let z : 0 + suc m ≡ suc m = omega arith in
    ap (λ (x : ℕ). asked_in law x s) z
    ∙ (asked-err law m s l (ap (step law) same ∙ e)
    ∙ (ap (λ (x : List Moving). asked_for law x) same ∙ ap (λ (x : List (List BodyValue)). x ++ asked_for law t) (sym (asked-zero law s))))
asked-stopped law k (suc n) m s t l h e =
    let p = parts law k n s t h in
    let rest = asked-stopped law (suc k) n m p.between t l p.others e in
    let z : suc n + suc m ≡ suc (n + suc m) = omega arith in
    ap (λ (x : ℕ). asked_in law x s) z
    ∙ (asked-suc law (n + suc m) s p.between p.first
    ∙ (ap (λ (x : List (List BodyValue)). asked_for law s ++ x) rest
    ∙ (sym (append_assoc (asked_for law s) (asked_in law n p.between) (asked_for law t))
    ∙ ap (λ (x : List (List BodyValue)). x ++ asked_for law t) (sym (asked-suc law n s p.between p.first)))))

-- ---- the loop

-- so many steps were made
pub record Far {E L : Type 0} (is_ready : E → L → Type 0) (answers : CallOf E L) (law : ForceLaw) (n : ℕ) (s t : List Moving) (e : E) (l : L) (f : E) (k : L) : Type 0 where
  pub made : steps law n s ≡ Ok t
  pub answered : Answered answers (asked_in law n s) e l f k
  pub ready : is_ready f k

-- no step was made yet
pub far-none : {E L : Type 0} (ready : E → L → Type 0) (answers : CallOf E L) (law : ForceLaw) (s : List Moving) (e : E) (l : L) → ready e l → Far ready answers law 0 s s e l e l
unfolding steps_from
far-none ready answers law s e l r =
    let P : List (List BodyValue) → Type 0 = λ x. Answered answers x e l e l in
    record { made = refl; answered = subst P (sym (asked-zero law s)) (refl, refl); ready = r }

-- one more step was made
pub far-more : {E L : Type 0} (ready : E → L → Type 0) (answers : CallOf E L) (law : ForceLaw) (n : ℕ) (s t u : List Moving) (e : E) (l : L) (f : E) (k : L) (g : E) (m : L) → Far ready answers law n s t e l f k → step law t ≡ Ok u → Answered answers (asked_for law t) f k g m × ready g m → Far ready answers law (n + 1) s u e l g m
far-more ready answers law n s t u e l f k g m h st (a, r) =
    let z : n + 1 ≡ suc n = omega arith in
    let P : List (List BodyValue) → Type 0 = λ x. Answered answers x e l g m in
    rw z (record {
      made = one-more law 1 n s t u h.made st;
      answered = subst P (sym (asked-more law 1 n s t u h.made st)) (answered-append answers (asked_in law n s) (asked_for law t) e l f k g m h.answered a);
      ready = r;
    })

-- the next step is not made, since a body would leave the cube
pub far-stopped : {E L : Type 0} (ready : E → L → Type 0) (answers : CallOf E L) (law : ForceLaw) (n count : ℕ) (s t : List Moving) (x : Leaver) (e : E) (l : L) (f : E) (k : L) (g : E) (m : L) → n < count → Far ready answers law n s t e l f k → step law t ≡ Err x → Answered answers (asked_for law t) f k g m × ready g m → (steps law count s ≡ Err (record { number = 1 + n; leaver = x })) × (Answered answers (asked_in law count s) e l g m × ready g m)
far-stopped ready answers law n count s t x e l f k g m lt h st (a, r) =
    let rest = count - suc n in
    let z : count ≡ n + suc rest = omega arith in
    let P : List (List BodyValue) → Type 0 = λ y. Answered answers y e l g m in (
      ap (λ (y : ℕ). steps law y s) z ∙ stopped law 1 n rest s t x h.made st,
      (subst P (sym (ap (λ (y : ℕ). asked_in law y s) z ∙ asked-stopped law 1 n rest s t x h.made st)) (answered-append answers (asked_in law n s) (asked_for law t) e l f k g m h.answered a), r),
    )

-- ---- an engine whose numbers are known to be those of the first call

-- one more step was made
pub far-step : {E L : Type 0} (ready : E → L → Type 0) (answers : CallOf E L) (first now : Settings) (n : ℕ) (s t u : List Moving) (e : E) (l : L) (f : E) (k : L) (g : E) (m : L) → now ≡ first → Far ready answers (force first) n s t e l f k → step (force now) t ≡ Ok u → Answered answers (asked_for (force now) t) f k g m × ready g m → Far ready answers (force first) (n + 1) s u e l g m
far-step ready answers first now n s t u e l f k g m same h st calls =
    let P : Settings → Type 0 = λ x. step (force x) t ≡ Ok u in
    let Q : Settings → Type 0 = λ x. Answered answers (asked_for (force x) t) f k g m × ready g m in
    far-more ready answers (force first) n s t u e l f k g m h (subst P same st) (subst Q same calls)

-- the next step is not made, since a body would leave the cube
pub far-left : {E L : Type 0} (ready : E → L → Type 0) (answers : CallOf E L) (first now : Settings) (n count : ℕ) (s t : List Moving) (x : Leaver) (e : E) (l : L) (f : E) (k : L) (g : E) (m : L) → now ≡ first → n < count → Far ready answers (force first) n s t e l f k → step (force now) t ≡ Err x → Answered answers (asked_for (force now) t) f k g m × ready g m → (steps (force first) count s ≡ Err (record { number = 1 + n; leaver = x })) × (Answered answers (asked_in (force first) count s) e l g m × ready g m)
far-left ready answers first now n count s t x e l f k g m same lt h st calls =
    let P : Settings → Type 0 = λ y. step (force y) t ≡ Err x in
    let Q : Settings → Type 0 = λ y. Answered answers (asked_for (force y) t) f k g m × ready g m in
    far-stopped ready answers (force first) n count s t x e l f k g m lt h (subst P same st) (subst Q same calls)

-- memory ran out in or behind a call of the next step
pub far-broke : {E L : Type 0} (rules : Rules E L) (first now : Settings) (n count : ℕ) (s t u : List Moving) (e : E) (l : L) (f : E) (k : L) (g : E) (m : L) → now ≡ first → u ≡ t → n < count → Far rules.is_ready rules.answers (force first) n s t e l f k → Broke rules (asked_for (force now) t) f k g m → BrokeIn rules (record { law = force first; count = count; first = s; last = u }) e l g m
far-broke {E} {L} rules first now n count s t u e l f k g m same kept lt h b =
    let Q : Settings → Type 0 = λ y. Broke rules (asked_for (force y) t) f k g m in
    let R : List Moving → Type 0 = λ y. Broke rules (asked_for (force first) y) f k g m in
    let S : List Moving → Type 0 = λ y. steps (force first) n s ≡ Ok y in
    record { made = n; fewer = lt; steps = subst S (sym kept) h.made; engine = f; link = k; answered = h.answered; broke = subst R (sym kept) (subst Q same b) }

-- all steps were made
pub far-end : {E L : Type 0} (ready : E → L → Type 0) (answers : CallOf E L) (law : ForceLaw) (n count : ℕ) (s t : List Moving) (e : E) (l : L) (f : E) (k : L) → n ≤ count → count ≤ n → Far ready answers law n s t e l f k → Far ready answers law count s t e l f k
far-end ready answers law n count s t e l f k a b h =
    let z : n ≡ count = omega arith in
    rw (← z) h

-- what holds where the next step is refused
pub record Refused {E L : Type 0} (rules : Rules E L) (c : Course) (x : StepsRefused) (e : E) (l : L) (g : E) (m : L) : Type 0 where
  pub answer : StepsAnswer c (Err x)
  pub leaves : StepsLeave rules c (Err x) e l g m

-- the next step is refused
pub far-refused : {E L : Type 0} (rules : Rules E L) (first now : Settings) (n count number : ℕ) (s t u : List Moving) (x : StepRefused) (e : E) (l : L) (f : E) (k : L) (g : E) (m : L) → number ≡ 1 + n → now ≡ first → n < count → Far rules.is_ready rules.answers (force first) n s t e l f k → StepAnswers (force now) t u (Err x) → StepLeaves rules (asked_for (force now) t) (Err x) f k g m → Refused rules (record { law = force first; count = count; first = s; last = u }) (at_step number x) e l g m
far-refused rules first now n count number s t u (Leaves row axis) e l f k g m is same lt h (st, kept) calls =
    let both = far-left rules.is_ready rules.answers first now n count s t (record { row = row; axis = axis }) e l f k g m same lt h st calls in
    let P : ℕ → Type 0 = λ y. steps (force first) count s ≡ Err (record { number = y; leaver = record { row = row; axis = axis } }) in
    let last : number - 1 ≡ n = omega arith in
    let Q : ℕ → Type 0 = λ y. steps (force first) y s ≡ Ok u in
    let R : List Moving → Type 0 = λ y. steps (force first) n s ≡ Ok y in
    record { answer = (subst P (sym is) both.0, subst Q (sym last) (subst R (sym kept) h.made)); leaves = both.1 }
far-refused rules first now n count number s t u Memory e l f k g m is same lt h st calls =
    let R : List Moving → Type 0 = λ y. steps (force first) n s ≡ Ok y in
    record { answer = (n, lt, subst R (sym st) h.made); leaves = far-broke rules first now n count s t u e l f k g m same st lt h calls }
