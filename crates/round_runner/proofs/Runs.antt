-- What each event keeps of ranks that run together.
use Rattle.std.proofs.Common.{◌≡◌, ◌≢◌, ℕ, zero, suc, ◌+◌, ◌<◌, ◌≤◌, Bool, true, false, Option, Some, None, Result, Ok, Err, IsErr, OnOk, OnErr, List, [], ◌∷◌, ◌++◌, length, take, drop, refl, ap, arith, sym, subst, ◌∙◌, inl, inr, slice_get, slice_set, slice_index_or, true≢false, length-append}
use Rattle.std.proofs.lemmas.Grind.{common_steps}
use Rattle.std.specs.declared.alloc.AllocError.{AllocError}
use Rattle.hot_units.specs.Limits.{max_ranks, max_level, max_bodies}
use Rattle.hot_units.specs.Values.{BodyValue, CellValue}
use Rattle.rank_model.specs.World.{World, IsGood}
use Rattle.rank_model.specs.Needs.{met_cells, round_bound}
use Rattle.rank_model.proofs.Bounds.{met_short}
use Rattle.std.proofs.Common.{Fits, w64, rules, mul-le-mul, ◌-◌, ◌*◌}
use Rattle.cell_mail.specs.Letters.{LetterValue}
use Rattle.wire.specs.declared.entry.Entry.{Entry}
use Rattle.wire.specs.declared.wire.Turn.{Turn}
use Rattle.wire.specs.Desk.{Desk, Takes, posted, turned, rounded, letters_in, rounds_in}
use Rattle.rank_core.specs.Times.{flag}
use Rattle.protocol.specs.Counts.{in_letters}
use Rattle.rank_core.specs.Truth.{TrueLetter}
use Rattle.rank_core.specs.Seat.{Seat, Moves, IsFresh, with_letter, refused}
use Rattle.protocol.specs.Logs.{Legal, IsPrompt, taken_since}
use Rattle.protocol.specs.Joint.{Joint, Worked, AllWorked, AllQuiet, IsStart, AllNew, IsBegun}
use Rattle.protocol.specs.Depth.{Deep}
use Rattle.protocol.specs.Ranks.{seats, ArePlaced, Together}
use Rattle.protocol.proofs.Ranks.{seat_at, rank_at, seats_set, seats_len}
use Rattle.protocol.proofs.Places.{get_within, get_one, get_some, get-set-same, get-set-other, set_cases, set_len}
use Rattle.protocol.proofs.Keeping.{step_keeps, post_keeps, take_keeps, turn_keeps, round_keeps, quiet_ends, step_deepens, post_deep, take_deep, turn_deep, round_deep, rounds_left}
use Rattle.protocol.proofs.Keeping.{start_holds}
use Rattle.protocol.proofs.Taking.{taken_true, legal_take}
use Rattle.rank_core.specs.Standing.{RankState}
use Rattle.rank_core.specs.Seats.{seat_of, visit_of, Stepped, PopsOut}
use Rattle.protocol.specs.Ranks.{seats, ArePlaced, Together}
use Rattle.round_runner.specs.Running.{most_rounds, numbers, HasOneMore, SameMail, Frame, QuietAt, outbox_len, PopsAt, HandsAt, Running, Over, RoundEnds}

-- the numbers of ranks
pub numbers_set : {V A : Type 0} (rs : List (RankState V A)) (q : ℕ) (s t : RankState V A) → slice_get rs q ≡ Some s → (seat_of t).me ≡ (seat_of s).me → numbers (slice_set rs q t) ≡ numbers rs
numbers_set [] q s t e n = refl
numbers_set (x ∷ rs) zero s t e n = let k : s ≡ x = cc in ap (λ (m : ℕ). m ∷ numbers rs) (n ∙ ap (λ y. (seat_of y).me) k)
numbers_set (x ∷ rs) (suc q) s t e n = ap (λ (ms : List ℕ). (seat_of x).me ∷ ms) (numbers_set rs q s t e n)

-- where each rank keeps its number, the list of numbers stays
pub numbers_step : {V A : Type 0} (rs ts : List (RankState V A)) → length ts ≡ length rs → ((k : ℕ) (d : RankState V A) → k < length rs → (seat_of (slice_index_or ts k d)).me ≡ (seat_of (slice_index_or rs k d)).me)
    → numbers ts ≡ numbers rs
numbers_step [] [] n h = refl
numbers_step [] (t ∷ ts) n h = absurd (omega (arith, n))
numbers_step (r ∷ rs) [] n h = absurd (omega (arith, n))
numbers_step (r ∷ rs) (t ∷ ts) n h =
    let one : (seat_of t).me ≡ (seat_of r).me = h 0 r (omega arith) in
    let rest : numbers ts ≡ numbers rs = numbers_step rs ts (omega (arith, n)) (λ k d lt. h (suc k) d (omega (arith, lt))) in
    ap (λ (m : ℕ). m ∷ numbers ts) one ∙ ap (λ (ms : List ℕ). (seat_of r).me ∷ ms) rest

number_at : {V A : Type 0} (rs : List (RankState V A)) (q : ℕ) (r : RankState V A) → slice_get rs q ≡ Some r → slice_get (numbers rs) q ≡ Some (seat_of r).me
number_at [] q r e = let k : None ≡ Some r = e in cc
number_at (x ∷ rs) zero r e = let k : x ≡ r = cc in ap (λ y. Some (seat_of y).me) k
number_at (x ∷ rs) (suc q) r e = number_at rs q r e

rank_of_number : {V A : Type 0} (rs : List (RankState V A)) (q n : ℕ) → slice_get (numbers rs) q ≡ Some n → (r : RankState V A) × (slice_get rs q ≡ Some r) × ((seat_of r).me ≡ n)
rank_of_number [] q n e = absurd (let k : None ≡ Some n = e in cc)
rank_of_number (x ∷ rs) zero n e = (x, refl, (let k : Some (seat_of x).me ≡ Some n = e in cc))
rank_of_number (x ∷ rs) (suc q) n e = rank_of_number rs q n e

-- ranks with the same numbers stand at the same places
pub placed_by : {V A : Type 0} (rs us : List (RankState V A)) → numbers us ≡ numbers rs → ArePlaced rs → ArePlaced us
placed_by rs us e h q u g =
    let r = rank_of_number rs q (seat_of u).me (subst (λ (ns : List ℕ). slice_get ns q ≡ Some (seat_of u).me) e (number_at us q u g)) in
    sym r.2 ∙ h q r.0 r.1

-- new ranks stand at the places of their numbers
pub new_placed : {V A : Type 0} (rs : List (RankState V A)) → AllNew (seats rs) → ArePlaced rs
new_placed rs new q r g = (new q (seat_of r) (seat_at rs q r g)).me

-- a rank that took a letter, or was refused memory, has its number
pub same_number : (s t : Seat) (l : LetterValue) (r : Result (Unit {0}) AllocError) → OnOk r (t ≡ with_letter s l) → OnErr r (t ≡ refused s) → t.me ≡ s.me
same_number s t l (Ok x) o e = ap (λ (y : Seat). y.me) o
same_number s t l (Err x) o e = ap (λ (y : Seat). y.me) e

at_get : {X : Type 0} (xs : List X) (i : ℕ) (x d : X) → slice_get xs i ≡ Some x → slice_index_or xs i d ≡ x
at_get [] i x d e = cc
at_get (y ∷ xs) zero x d e = cc
at_get (y ∷ xs) (suc i) x d e = at_get xs i x d e

module _ {V A : Type 0} (opens_by : V → BodyValue → CellValue → Bool) (Stands : World → RankState V A → Type 0) where
  -- all ranks step
  module _ (v : V) (w : World) (rs ts : List (RankState V A)) (d : Desk) (j : Running opens_by Stands v w rs d 0) (quiet : AllQuiet (seats rs)) (start : IsStart d.log)
      (each : (k : ℕ) (x : RankState V A) → k < length rs → Stepped opens_by Stands (slice_index_or rs k x) (slice_index_or ts k x)) (len : length ts ≡ length rs)
      (fed : (q : ℕ) (r : RankState V A) → slice_get ts q ≡ Some r → (seat_of r).starved ≡ false) where
    stepped : (q : ℕ) (s t : RankState V A) → slice_get rs q ≡ Some s → slice_get ts q ≡ Some t → Stepped opens_by Stands s t
    stepped q s t gs gt =
        let e : Stepped opens_by Stands (slice_index_or rs q s) (slice_index_or ts q s) = each q s (get_within rs q s gs) in
        subst (λ x. Stepped opens_by Stands x t) (at_get rs q s s gs) (subst (λ x. Stepped opens_by Stands (slice_index_or rs q s) x) (at_get ts q t s gt) e)

    moved : (q : ℕ) (s t : Seat) → slice_get (seats rs) q ≡ Some s → slice_get (seats ts) q ≡ Some t → Moves (opens_by v) w s t
    moved q s t gs gt =
        let a = rank_at rs q s gs in let b = rank_at ts q t gt in
        let st = stepped q a.0 b.0 a.1 b.1 in
        let m : Moves (opens_by (visit_of a.0)) w (seat_of a.0) (seat_of b.0) = st.moves w (j.together.stand q a.0 a.1) (fed q b.0 b.1) in
        let m2 : Moves (opens_by v) w (seat_of a.0) (seat_of b.0) = subst (λ x. Moves (opens_by x) w (seat_of a.0) (seat_of b.0)) (j.together.visit q a.0 a.1) m in
        subst (λ x. Moves (opens_by v) w x t) a.2 (subst (λ x. Moves (opens_by v) w (seat_of a.0) x) b.2 m2)

    seats_same : length (seats ts) ≡ length (seats rs)
    seats_same = seats_len ts ∙ len ∙ sym (seats_len rs)

    before : (q : ℕ) (t : RankState V A) → slice_get ts q ≡ Some t → (s : RankState V A) × (slice_get rs q ≡ Some s) × Stepped opens_by Stands s t
    before q t gt =
        let lt = get_within ts q t gt in
        let s = get_some rs q (omega (arith, len)) in (s.0, s.1, stepped q s.0 t s.1 gt)

    -- where each rank steps, and none is refused memory, they run on
    pub running_step : Running opens_by Stands v w ts d 1
    running_step = record {
      together = record {
        good = j.together.good;
        ranks = len ∙ j.together.ranks;
        stand = λ q t gt. (let b = before q t gt in b.2.kept w (j.together.stand q b.0 b.1));
        visit = λ q t gt. (let b = before q t gt in b.2.visit ∙ j.together.visit q b.0 b.1);
      };
      joint = (step_keeps (opens_by v) w (seats rs) (seats ts) d j.joint quiet start seats_same moved).0;
      deep = λ p. subst (λ n. Deep (seats ts) d n) (omega arith) (step_deepens (opens_by v) w (seats rs) (seats ts) d j.joint quiet start seats_same moved p (rounds_in d.log + 0) (j.deep p));
      prompt = j.prompt;
    }

    -- and each rank is as a step leaves it
    pub worked_step : AllWorked (seats ts)
    worked_step = (step_keeps (opens_by v) w (seats rs) (seats ts) d j.joint quiet start seats_same moved).1

  -- a change at one place
  pub together_set : (v : V) (w : World) (rs : List (RankState V A)) (q : ℕ) (s t : RankState V A) → slice_get rs q ≡ Some s → (Stands w s → Stands w t) → visit_of t ≡ visit_of s → Together Stands v w rs → Together Stands v w (slice_set rs q t)
  together_set v w rs q s t gs kept same j = record {
    good = j.good;
    ranks = set_len rs q t ∙ j.ranks;
    stand = λ p u g. elim (set_cases rs q s t p u gs g) [
      | inl e ↦ subst (λ y. Stands w y) (sym e.1) (kept (j.stand q s gs))
      | inr e ↦ j.stand p u e.1
    ];
    visit = λ p u g. elim (set_cases rs q s t p u gs g) [
      | inl e ↦ ap (λ (y : RankState V A). visit_of y) e.1 ∙ same ∙ j.visit q s gs
      | inr e ↦ j.visit p u e.1
    ];
  }

  -- a letter is posted
  pub running_post : (v : V) (w : World) (rs : List (RankState V A)) (d : Desk) (q : ℕ) (l : LetterValue) (ts : List (RankState V A)) → PopsAt Stands rs q (Some l) ts → Running opens_by Stands v w rs d 1 → Running opens_by Stands v w ts (posted d l) 1
  running_post v w rs d q l ts p j =
      let s = p.0 in let t = p.1 in
      let gs = seat_at rs q s p.2 in
      let out = p.4.out in
      let e : seats ts ≡ slice_set (seats rs) q (seat_of t) = ap (λ x. seats x) p.3 ∙ seats_set rs q t in
      record {
        together = subst (λ x. Together Stands v w x) (sym p.3) (together_set v w rs q s t p.2 (p.4.kept w) p.4.visit j.together);
        joint = subst (λ x. Joint (opens_by v) w x (posted d l)) (sym e) (post_keeps (opens_by v) w (seats rs) d q (seat_of s) (seat_of t) l j.joint gs out.0 out.1).1;
        deep = λ x. subst (λ y. Deep y (posted d l) (rounds_in d.log + 1)) (sym e) (post_deep (seats rs) d (rounds_in d.log + 1) q (seat_of s) (seat_of t) l gs out.0 out.1 (j.deep x));
        prompt = j.prompt;
      }

  -- a letter is taken
  module _ (v : V) (w : World) (rs : List (RankState V A)) (d e : Desk) (l : LetterValue) (j : Running opens_by Stands v w rs d 1) (tk : Takes d l e) where
    -- the letter is true
    pub taken_letter : TrueLetter w l
    taken_letter = taken_true (opens_by v) w (seats rs) d e l j.joint tk

    -- its receiver is one of the ranks
    pub taken_within : l.to < length rs
    taken_within = omega (arith, taken_letter.to_in, j.together.ranks)

    -- the log is legal after it was taken
    pub taken_legal : Legal (opens_by v) w e.log
    taken_legal = legal_take (opens_by v) w (seats rs) d e l j.joint tk

    -- the rank at the place of the receiver is the receiver, and may take it
    pub taken_fresh : (r : RankState V A) → slice_get rs l.to ≡ Some r → (l.to ≡ (seat_of r).me) × IsFresh (seat_of r) l
    taken_fresh r gr = (let f = take_keeps (opens_by v) w (seats rs) d e l (seat_of r) j.joint tk (seat_at rs l.to r gr) in (f.1, f.2))

    -- where it was handed to its receiver, they run on
    pub running_take : (ts : List (RankState V A)) (x : Unit {0}) → HandsAt Stands rs l ts (Ok x) → Running opens_by Stands v w ts e 1
    running_take ts x h =
        let s = h.0 in let t = h.1 in
        let gs = seat_at rs l.to s h.2 in
        let same : seats ts ≡ slice_set (seats rs) l.to (seat_of t) = ap (λ y. seats y) h.3 ∙ seats_set rs l.to t in
        let rounds : rounds_in e.log ≡ rounds_in d.log = ap (λ (y : Desk). rounds_in y.log) tk.3 in
        let log_prompt : IsPrompt e.log → IsPrompt d.log = λ p. subst (λ (y : Desk). IsPrompt y.log) tk.3 p in
        record {
          together = subst (λ y. Together Stands v w y) (sym h.3) (together_set v w rs l.to s t h.2 (λ st. h.4.kept w st taken_letter) h.4.visit j.together);
          joint = subst (λ y. Joint (opens_by v) w y e) (sym same) ((take_keeps (opens_by v) w (seats rs) d e l (seat_of s) j.joint tk gs).4 (seat_of t) h.4.ok);
          deep = λ p. subst (λ y. Deep y e (rounds_in e.log + 1)) (sym same) (subst (λ n. Deep (slice_set (seats rs) l.to (seat_of t)) e (n + 1)) (sym rounds) (take_deep (opens_by v) w (seats rs) d e l (rounds_in d.log + 1) (seat_of s) (seat_of t) j.joint tk gs h.4.ok (j.deep (log_prompt p))));
          prompt = λ q. (
              let eager : d.eager d.mail ≡ true = subst (λ (y : Desk). y.eager y.mail ≡ true) tk.3 q in
              subst (λ (y : Desk). IsPrompt y.log) (sym tk.3) (j.prompt eager));
        }

  -- a change of the turn leaves them running
  pub running_turned : (v : V) (w : World) (rs : List (RankState V A)) (d e : Desk) (t : Turn) → e ≡ turned d t → Running opens_by Stands v w rs d 1 → Running opens_by Stands v w rs e 1
  running_turned v w rs d e t is j = subst (λ x. Running opens_by Stands v w rs x 1) (sym is) (record {
    together = j.together;
    joint = turn_keeps (opens_by v) w (seats rs) d t j.joint;
    deep = λ p. turn_deep (seats rs) d (rounds_in d.log + 1) t (j.deep p);
    prompt = j.prompt;
  })

  -- a round ends
  prompt_more : (v : V) (w : World) (rs : List (RankState V A)) (d : Desk) → Running opens_by Stands v w rs d 1 → (d.eager d.mail ≡ true → d.pending ≡ []) → d.eager d.mail ≡ true → IsPrompt (rounded d).log
  prompt_more v w rs d j all e = (
    j.prompt e,
    λ f. (
        let m = j.joint.mailbox (λ n. flag (f n)) in
        let z : in_letters (λ n. flag (f n)) d.pending ≡ 0 = ap (in_letters (λ n. flag (f n))) (all e) in omega arith),
  )

  -- with a letter taken, and if the wire is eager none pending, a round ends and they run on
  pub running_round : (v : V) (w : World) (rs : List (RankState V A)) (d e : Desk) → Running opens_by Stands v w rs d 1 → taken_since d.log ≡ true → (d.eager d.mail ≡ true → d.pending ≡ []) → e ≡ rounded d → Running opens_by Stands v w rs e 0
  running_round v w rs d e j t all is = subst (λ x. Running opens_by Stands v w rs x 0) (sym is) (record {
    together = j.together;
    joint = (round_keeps (opens_by v) w (seats rs) d j.joint t).0;
    deep = λ p. subst (λ n. Deep (seats rs) (rounded d) n) (omega arith) (round_deep (seats rs) d (rounds_in d.log + 1) refl t (j.deep p.0));
    prompt = prompt_more v w rs d j all;
  })

  -- a round after whose posting nothing is pending leaves what the last one leaves
  pub round_last : (v : V) (w : World) (rs : List (RankState V A)) (d e : Desk) → Running opens_by Stands v w rs d 1 → AllWorked (seats rs) → AllQuiet (seats rs) → d.pending ≡ [] → e ≡ rounded d → Over opens_by Stands v w rs e
  round_last v w rs d e j wk qt pe is = subst (λ x. Over opens_by Stands v w rs x) (sym is) (
      let q = quiet_ends (opens_by v) w (seats rs) d j.joint wk qt pe in
      record {
        placed = λ q r gr. j.joint.place q (seat_of r) (seat_at rs q r gr);
        together = j.together;
        finished = q.0;
        legal = q.1;
        complete = q.2;
        quiet = pe;
        prompt = prompt_more v w rs d j (λ x. pe);
        few = λ p. (let a = (j.deep p.0).few in omega arith);
      })

  -- the log is legal after a round has ended
  pub legal_round : (v : V) (w : World) (rs : List (RankState V A)) (d e : Desk) → Running opens_by Stands v w rs d 1 → e ≡ rounded d → Legal (opens_by v) w e.log
  legal_round v w rs d e j is = subst (λ (x : Desk). Legal (opens_by v) w x.log) (sym is) (j.joint.legal, tt, j.joint.wet)

  -- where memory was refused, a legal log is what a round leaves
  pub round_err : (v : V) (w : World) (rs : List (RankState V A)) (d : Desk) (r : Result Bool AllocError) → IsErr r → Legal (opens_by v) w d.log → RoundEnds opens_by Stands v w rs d r
  round_err v w rs d (Ok x) e l = let q : false ≡ true = e in absurd (true≢false (sym q))
  round_err v w rs d (Err x) e l = l

  -- a round that was the last one leaves what the last one leaves
  pub ends_last : (v : V) (w : World) (rs : List (RankState V A)) (d : Desk) (b : Bool) → b ≡ true → RoundEnds opens_by Stands v w rs d (Ok b) → Over opens_by Stands v w rs d
  ends_last v w rs d true e h = h
  ends_last v w rs d false e h = absurd (true≢false (sym e))

  -- after a round that was not the last one they run on
  pub ends_more : (v : V) (w : World) (rs : List (RankState V A)) (d : Desk) (b : Bool) → b ≡ false → RoundEnds opens_by Stands v w rs d (Ok b) → Running opens_by Stands v w rs d 0
  ends_more v w rs d true e h = absurd (true≢false e)
  ends_more v w rs d false e h = h

  -- the rounds of ranks that run are at most the letters, and below the bound
  pub room_left : (v : V) (w : World) (rs : List (RankState V A)) (d : Desk) (n : ℕ) → Running opens_by Stands v w rs d n → (rounds_in d.log ≤ letters_in d.log) × (rounds_in d.log < round_bound (opens_by v) w)
  room_left v w rs d n j = rounds_left (opens_by v) w (seats rs) d j.joint

  -- new ranks that are together run, with a wire that was begun
  pub running_new : (v : V) (w : World) (rs : List (RankState V A)) (d : Desk) → Together Stands v w rs → AllNew (seats rs) → IsBegun d → Running opens_by Stands v w rs d 0
  running_new v w rs d t new b =
      let s = start_holds (opens_by v) w (seats rs) d t.good (seats_len rs ∙ t.ranks) new b in
      record {
        together = t;
        joint = s.0;
        deep = λ p. subst (λ n. Deep (seats rs) d n) (let a : rounds_in d.log ≡ 0 = ap rounds_in b.log in omega arith) s.3;
        prompt = λ e. subst (λ (l : List Entry). IsPrompt l) (sym b.log) tt;
      }

-- popping
module _ {V A : Type 0} (Stands : World → RankState V A → Type 0) where
  -- to pop from an outbox leaves as many ranks
  pub pops_len : (rs : List (RankState V A)) (q : ℕ) (o : Option LetterValue) (ts : List (RankState V A)) → PopsAt Stands rs q o ts → length ts ≡ length rs
  pops_len rs q o ts p = ap length p.3 ∙ set_len rs q p.1

  -- to pop from an outbox leaves all other ranks as they were
  pub pops_others : (rs : List (RankState V A)) (q : ℕ) (o : Option LetterValue) (ts : List (RankState V A)) → PopsAt Stands rs q o ts → (x : ℕ) → x ≢ q → slice_get ts x ≡ slice_get rs x
  pops_others rs q o ts p x ne = ap (λ us. slice_get us x) p.3 ∙ get-set-other rs q x p.1 ne

  popped_number : (s t : Seat) (o : Option LetterValue) → PopsOut s o t → t.me ≡ s.me
  popped_number s t None e = ap (λ (y : Seat). y.me) e.1
  popped_number s t (Some l) e = ap (λ (y : Seat). y.me) e.1

  -- to pop from an outbox leaves the numbers of the ranks
  pub pops_numbers : (rs : List (RankState V A)) (q : ℕ) (o : Option LetterValue) (ts : List (RankState V A)) → PopsAt Stands rs q o ts → numbers ts ≡ numbers rs
  pops_numbers rs q o ts p = ap (λ us. numbers us) p.3 ∙ numbers_set rs q p.0 p.1 p.2 (popped_number (seat_of p.0) (seat_of p.1) o p.4.out)

  still_worked : (s t : Seat) (o : Option LetterValue) → PopsOut s o t → Worked s → Worked t
  still_worked s t None e wk = subst (λ y. Worked y) (sym e.1) wk
  still_worked s t (Some l) e wk = subst (λ y. Worked y) (sym e.1) (record { begun = wk.begun; inbox = wk.inbox; waits = wk.waits })

  -- to pop from an outbox leaves each rank as a step leaves it, if all were so
  pub pops_worked : (rs : List (RankState V A)) (q : ℕ) (o : Option LetterValue) (ts : List (RankState V A)) → PopsAt Stands rs q o ts → AllWorked (seats rs) → AllWorked (seats ts)
  pops_worked rs q o ts p wk x u g =
      let e : seats ts ≡ slice_set (seats rs) q (seat_of p.1) = ap (λ y. seats y) p.3 ∙ seats_set rs q p.1 in
      let gs = seat_at rs q p.0 p.2 in
      elim (set_cases (seats rs) q (seat_of p.0) (seat_of p.1) x u gs (subst (λ us. slice_get us x ≡ Some u) e g)) [
        | inl y ↦ subst (λ z. Worked z) (sym y.1) (still_worked (seat_of p.0) (seat_of p.1) o p.4.out (wk q (seat_of p.0) gs))
        | inr y ↦ wk x u y.1
      ]

  -- where none was popped, the outbox is empty
  pub pops_quiet : (rs : List (RankState V A)) (q : ℕ) (ts : List (RankState V A)) → PopsAt Stands rs q None ts → QuietAt (seats ts) q
  pops_quiet rs q ts p s g =
      let e : seats ts ≡ slice_set (seats rs) q (seat_of p.1) = ap (λ y. seats y) p.3 ∙ seats_set rs q p.1 in
      let gs = seat_at rs q p.0 p.2 in
      let a : slice_get (slice_set (seats rs) q (seat_of p.1)) q ≡ Some (seat_of p.1) = get-set-same (seats rs) q (seat_of p.1) (get_within (seats rs) q (seat_of p.0) gs) in
      let b : s ≡ (seat_of p.1) = get_one (slice_set (seats rs) q (seat_of p.1)) q s (seat_of p.1) (subst (λ us. slice_get us q ≡ Some s) e g) a in
      ap (λ (y : Seat). y.outbox) (b ∙ p.4.out.1) ∙ p.4.out.0

  len_at : (ss : List Seat) (q : ℕ) (s : Seat) → slice_get ss q ≡ Some s → outbox_len ss q ≡ length s.outbox
  len_at [] q s e = let k : None ≡ Some s = e in cc
  len_at (x ∷ ss) zero s e = let k : x ≡ s = cc in ap (λ (y : Seat). length y.outbox) k
  len_at (x ∷ ss) (suc q) s e = len_at ss q s e

  -- where a letter was popped, the outbox is shorter
  pub pops_smaller : (rs : List (RankState V A)) (q : ℕ) (l : LetterValue) (ts : List (RankState V A)) → PopsAt Stands rs q (Some l) ts → outbox_len (seats ts) q < outbox_len (seats rs) q
  pops_smaller rs q l ts p =
      let gs = seat_at rs q p.0 p.2 in
      let a = len_at (seats rs) q (seat_of p.0) gs in
      let g : slice_get ts q ≡ Some p.1 = ap (λ us. slice_get us q) p.3 ∙ get-set-same rs q p.1 (get_within rs q p.0 p.2) in
      let b = len_at (seats ts) q (seat_of p.1) (seat_at ts q p.1 g) in
      let c : length (seat_of p.0).outbox ≡ length (l ∷ (seat_of p.1).outbox) = ap length p.4.out.0 in
      omega arith

  -- a letter in an inbox leaves outboxes alone
  pub hands_quiet : (rs : List (RankState V A)) (l : LetterValue) (ts : List (RankState V A)) (x : Unit {0}) → HandsAt Stands rs l ts (Ok x) → AllQuiet (seats rs) → AllQuiet (seats ts)
  hands_quiet rs l ts x h qt p u g =
      let e : seats ts ≡ slice_set (seats rs) l.to (seat_of h.1) = ap (λ y. seats y) h.3 ∙ seats_set rs l.to h.1 in
      let gs = seat_at rs l.to h.0 h.2 in
      elim (set_cases (seats rs) l.to (seat_of h.0) (seat_of h.1) p u gs (subst (λ us. slice_get us p ≡ Some u) e g)) [
        | inl y ↦ ap (λ (z : Seat). z.outbox) (y.1 ∙ h.4.ok) ∙ qt l.to (seat_of h.0) gs
        | inr y ↦ qt p u y.1
      ]

module _ {V A : Type 0} (opens_by : V → BodyValue → CellValue → Bool) (Stands : World → RankState V A → Type 0) where
  -- none was popped: all is as it was, as far as it stands for a world
  pub running_none : (v : V) (w : World) (rs : List (RankState V A)) (d : Desk) (q : ℕ) (ts : List (RankState V A)) → PopsAt Stands rs q None ts → Running opens_by Stands v w rs d 1 → Running opens_by Stands v w ts d 1
  running_none v w rs d q ts p j =
      let gs = seat_at rs q p.0 p.2 in
      let e : seats ts ≡ seats rs = ap (λ y. seats y) p.3 ∙ seats_set rs q p.1 ∙ ap (slice_set (seats rs) q) p.4.out.1 ∙ set_same (seats rs) q (seat_of p.0) gs in
      record {
        together = subst (λ x. Together Stands v w x) (sym p.3) (together_set opens_by Stands v w rs q p.0 p.1 p.2 (p.4.kept w) p.4.visit j.together);
        joint = subst (λ x. Joint (opens_by v) w x d) (sym e) j.joint;
        deep = λ x. subst (λ y. Deep y d (rounds_in d.log + 1)) (sym e) (j.deep x);
        prompt = j.prompt;
      }
    where
      set_same : (ss : List Seat) (q : ℕ) (s : Seat) → slice_get ss q ≡ Some s → slice_set ss q s ≡ ss
      set_same [] q s e = refl
      set_same (x ∷ ss) zero s e = let k : x ≡ s = cc in ap (λ (y : Seat). y ∷ ss) (sym k)
      set_same (x ∷ ss) (suc q) s e = ap (λ (us : List Seat). x ∷ us) (set_same ss q s e)

-- a rank that is as it was
pub quiet_elsewhere : {V A : Type 0} (rs ts : List (RankState V A)) (p : ℕ) → slice_get ts p ≡ slice_get rs p → QuietAt (seats rs) p → QuietAt (seats ts) p
quiet_elsewhere rs ts p e h s g = let r = rank_at ts p s g in h s (subst (λ x. slice_get (seats rs) p ≡ Some x) r.2 (seat_at rs p r.0 (sym e ∙ r.1)))

-- frames
pub frame_on : {X : Type 0} (ss : List X) (d : Desk) (ts : List X) (e : Desk) (us : List X) (f : Desk) → Frame ss d ts e → Frame ts e us f → Frame ss d us f
frame_on ss d ts e us f a b = record { len = b.len ∙ a.len; mail = b.mail ∙ a.mail; eager = b.eager ∙ a.eager; rounds = b.rounds ∙ a.rounds }

-- a letter that is posted keeps the frame, with as many ranks
pub frame_post : {X : Type 0} (ss : List X) (d : Desk) (l : LetterValue) (ts : List X) (e : Desk) → length ts ≡ length ss → e ≡ posted d l → Frame ss d ts e
frame_post ss d l ts e n is = record { len = n; mail = ap (λ (x : Desk). x.mail) is; eager = ap (λ (x : Desk). x.eager) is; rounds = ap (λ (x : Desk). rounds_in x.log) is }

-- a wire that stays keeps the frame, with as many ranks
pub frame_same : {X : Type 0} (ss : List X) (d : Desk) (ts : List X) → length ts ≡ length ss → Frame ss d ts d
frame_same ss d ts n = record { len = n; mail = refl; eager = refl; rounds = refl }

-- a change of the turn keeps the frame
pub frame_turned : {X : Type 0} (ss : List X) (d e : Desk) (t : Turn) → e ≡ turned d t → Frame ss d ss e
frame_turned ss d e t is = record { len = refl; mail = ap (λ (x : Desk). x.mail) is; eager = ap (λ (x : Desk). x.eager) is; rounds = ap (λ (x : Desk). rounds_in x.log) is }

-- a letter that is taken keeps the frame, with as many ranks
pub frame_take : {X : Type 0} (ss : List X) (d e : Desk) (l : LetterValue) (ts : List X) → length ts ≡ length ss → Takes d l e → Frame ss d ts e
frame_take ss d e l ts n tk = record { len = n; mail = ap (λ (x : Desk). x.mail) tk.3; eager = ap (λ (x : Desk). x.eager) tk.3; rounds = ap (λ (x : Desk). rounds_in x.log) tk.3 }

-- a wire that is eager now was eager at the start of the frame
pub eager_back : {X : Type 0} (ss : List X) (d : Desk) (ts : List X) (e : Desk) → Frame ss d ts e → e.eager e.mail ≡ true → d.eager d.mail ≡ true
eager_back ss d ts e f h = subst (λ m. d.eager m ≡ true) f.mail (subst (λ g. g e.mail ≡ true) f.eager h)

-- a wire that was eager at the start of the frame is eager
pub eager_forth : {X : Type 0} (ss : List X) (d : Desk) (ts : List X) (e : Desk) → Frame ss d ts e → d.eager d.mail ≡ true → e.eager e.mail ≡ true
eager_forth ss d ts e f h = subst (λ m. e.eager m ≡ true) (sym f.mail) (subst (λ g. g d.mail ≡ true) (sym f.eager) h)

-- within a frame the mail stays
pub frame_mail : {X : Type 0} (ss : List X) (d : Desk) (ts : List X) (e : Desk) → Frame ss d ts e → SameMail d e
frame_mail ss d ts e f = record { mail = f.mail; eager = f.eager }

-- a frame and the end of a round behind it keep the mail
pub round_mail : {X : Type 0} (ss : List X) (d : Desk) (ts : List X) (e f : Desk) → Frame ss d ts e → f ≡ rounded e → SameMail d f
round_mail ss d ts e f a is = record { mail = ap (λ (x : Desk). x.mail) is ∙ a.mail; eager = ap (λ (x : Desk). x.eager) is ∙ a.eager }

-- a frame and the end of a round behind it are one round more
pub round_more : {X : Type 0} (ss : List X) (d : Desk) (ts : List X) (e f : Desk) → Frame ss d ts e → f ≡ rounded e → HasOneMore d.log f.log
round_more ss d ts e f a is = ap (λ (x : Desk). rounds_in x.log) is ∙ ap (λ (n : ℕ). 1 + n) a.rounds

-- behind the end of a round the next one starts
pub round_start : (d e : Desk) → e ≡ rounded d → IsStart e.log
round_start d e is = subst (λ (x : Desk). IsStart x.log) (sym is) tt

-- a letter that is taken is pending no more
pub fewer_take : (d e : Desk) (l : LetterValue) → Takes d l e → length e.pending < length d.pending
fewer_take d e l tk =
    let a : length d.pending ≡ length (tk.0 ++ l ∷ tk.1) = ap length tk.2 in
    let b : length e.pending ≡ length (tk.0 ++ tk.1) = ap (λ (x : Desk). length x.pending) tk.3 in
    omega (arith, a, b, length-append tk.0 tk.1, length-append tk.0 (l ∷ tk.1))

-- the bound on rounds is a small number
pub bound_fits : (opens : BodyValue → CellValue → Bool) (w : World) → IsGood w → w.ranks ≤ max_ranks → round_bound opens w ≤ most_rounds
bound_fits opens w g r =
    let m = met_short opens w in
    let f = g.few in
    by_numbers (w.ranks - 1) (w.ranks + 2 * length (met_cells opens w)) (omega arith) (omega arith)
  where
    by_numbers : (x y : ℕ) → x ≤ max_ranks - 1 → y ≤ max_ranks + 2 * ((max_level + 1) * max_bodies) → x * y + 1 ≤ most_rounds
    by_numbers x y a b = let c : x * y ≤ (max_ranks - 1) * (max_ranks + 2 * ((max_level + 1) * max_bodies)) = mul-le-mul a b in omega (arith, c)

-- a number below the most rounds, and one more, fits 64 bits
pub below_word : (n : ℕ) → n < most_rounds → Fits w64 (n + 1)
below_word n le = search rules

-- a list of length 0 is empty
pub nil_of : {X : Type 0} (xs : List X) → length xs ≡ 0 → xs ≡ []
nil_of [] e = refl
nil_of (x ∷ xs) e = absurd (omega arith)

-- a list that was written over the front of another one is what is read there
pub back_in : {X : Type 0} (xs ys : List X) (n : ℕ) → length xs ≡ n → take n (xs ++ drop (length xs) ys) ≡ xs
back_in xs ys n e = grind (arith, common_steps)

-- on a wire that was begun nothing happened yet
pub begun_start : (d : Desk) → IsBegun d → IsStart d.log
begun_start d b = subst (λ (l : List Entry). IsStart l) (sym b.log) tt

-- the mail stays over two stretches in each of which it stays
pub same_on : (d e f : Desk) → SameMail d e → SameMail e f → SameMail d f
same_on d e f a b = record { mail = b.mail ∙ a.mail; eager = b.eager ∙ a.eager }

-- while the mail stays, an eager wire stays eager
pub eager_on : (d e f : Desk) → SameMail d e → SameMail e f → d.eager d.mail ≡ true → f.eager f.mail ≡ true
eager_on d e f a b h = let s = same_on d e f a b in subst (λ m. f.eager m ≡ true) (sym s.mail) (subst (λ g. g d.mail ≡ true) (sym s.eager) h)

module _ {V A : Type 0} (opens_by : V → BodyValue → CellValue → Bool) (Stands : World → RankState V A → Type 0) where
  -- equal lists of ranks run alike
  pub as_slice : (v : V) (w : World) (rs ts : List (RankState V A)) (d : Desk) → ts ≡ rs → Running opens_by Stands v w rs d 0 → Running opens_by Stands v w ts d 0
  as_slice v w rs ts d e j = subst (λ us. Running opens_by Stands v w us d 0) (sym e) j

  -- ranks within their limit that run have had fewer rounds than the most
  pub rounds_small : (v : V) (w : World) (rs : List (RankState V A)) (d : Desk) → length rs ≤ max_ranks → Running opens_by Stands v w rs d 0 → rounds_in d.log < most_rounds
  rounds_small v w rs d le j =
      let a = (room_left opens_by Stands v w rs d 0 j).1 in
      let b = bound_fits (opens_by v) w j.together.good (omega (arith, le, j.together.ranks)) in omega arith
