-- What a walk over ranks gives of a run.
use Rattle.std.proofs.Common.{ℕ, ◌≡◌, Bool, true, false, not, List, length, map, Option, Some, Result, Ok, Err, IsErr, IfOk, refl, ap, sym, ◌∙◌, subst, inl, inr}
use Rattle.std.specs.Prelude.{◌==◌}
use Rattle.std.specs.declared.alloc.AllocError.{AllocError}
use Rattle.std.proofs.lemmas.List.{length-map}
use Rattle.hot_units.specs.Values.{BodyValue, CellValue, Acc3Value}
use Rattle.hot_units.specs.Order.{ordered}
use Rattle.hot_units.specs.Bodies.{mass_of, RowsCount}
use Rattle.hot_units.specs.declared.mail.Mail.{Mail}
use Rattle.hot_units.proofs.Members.{map_same}
use Rattle.hot_model.specs.Kernel.{accepts}
use Rattle.hot_model.specs.Trees.{force}
use Rattle.hot_model.specs.Forces.{whole, gravity_adds, untouched}
use Rattle.hot_model.proofs.Ties.{fold-is-force}
use Rattle.rank_model.specs.World.{World}
use Rattle.fixed_kernel.specs.Visit.{VisitValue}
use Rattle.body_set.specs.Sets.{SetValue, in_key_order}
use Rattle.key_order.specs.Ordered.{OrderedValue}
use Rattle.wire.specs.declared.entry.Entry.{Entry}
use Rattle.wire.specs.Desk.{Desk, rounds_in}
use Rattle.defer_walk.specs.Standing.{VisitOf, meaning, fold_in}
use Rattle.rank_set.specs.declared.found.Effort.{Effort}
use Rattle.rank_set.specs.declared.sharing.Sharing.{Sharing}
use Rattle.rank_set.specs.Sharings.{shared}
use Rattle.rank_set.specs.Efforts.{AreFindsIn}
use Rattle.rank_walk.specs.Marks.{HasBegun, HasRun, Leaves}
use Rattle.run_report.specs.Report.{ReportValue, report_of, SampleValue, sum_of}
use Rattle.hot_words.specs.Commands.{JobValue}
use Rattle.rank_set.specs.Places.{ArePlaced}
use Rattle.hot.specs.Runs.{WireUse, unused, used, RunValue, Wired, log_of, settings_of, gravity_run, RunLeaves, RunBegan}
use Rattle.hot.specs.Texts.{forces_of, run_report, sample_of}
use Rattle.hot.specs.Prepared.{world_by, gravity_of, IsWalkOf, WalkLeaves, walk_report, IsRunOf, ComputeLeaves}
use Rattle.hot.proofs.FileBodies.{forces_back}

-- what a sharing of the run's numbers makes of a set is its world
pub world_is : (run : RunValue) (set : OrderedValue) (s : Sharing) → s.ranks ≡ run.ranks → s.leaf ≡ run.leaf → shared set s ≡ world_by run set
world_is run set s r l = cc

-- what the visit of a run means
abbrev pub meaning_of : VisitValue → VisitOf Acc3Value
meaning_of v = meaning (λ (x : VisitValue). untouched) (λ (x : VisitValue) b a t. gravity_adds x.second x.eps b a t) (λ (x : VisitValue) b c. not (accepts x.ratio.num x.ratio.den b c)) (λ (a : Acc3Value). a.seen) v

-- a visit with the numbers of a run means the gravity of that run
pub meaning_is : (v : VisitValue) (job : JobValue) → v ≡ record { ratio = job.ratio; eps = job.eps; second = job.moments == 2 } → meaning_of v ≡ gravity_of job
meaning_is v job e = ap meaning_of e

-- one value of the walk for each answer
module _ {W F A : Type 0} (desk : W → Desk) (accs : F → List A) (efforts : F → List Effort) (opened : F → List ℕ) (rounds : F → ℕ) (v : VisitOf A) (run : RunValue) (set : OrderedValue) (m : VisitOf A) (w : World) (mail : Mail) (old new : W)
    (o : v.opens ≡ run.opens) (e : m ≡ v) (p : w ≡ world_by run set) (q : mail ≡ run.mail) (kept : (desk new).eager ≡ (desk old).eager) where
  -- what the walk of a run leaves of the wire, and finds, with some use of the wire
  abbrev pub Walked : Result F AllocError → Type 0
  Walked r = (wu : WireUse) × Wired desk old new wu × WalkLeaves run set wu r × IfOk r (λ f. IsWalkOf v run set (log_of wu) (accs f) (efforts f) (opened f) (rounds f))

  -- what holds by the opened cells, the world and the mail of a walk holds by those of the run
  by_run : (P : (BodyValue → CellValue → Bool) → World → Mail → Type 0) → P m.opens w mail → P run.opens (world_by run set) run.mail
  by_run P h =
      subst (λ (x : Mail). P run.opens (world_by run set) x) q
      (subst (λ (x : World). P run.opens x mail) p
      (subst (λ (x : BodyValue → CellValue → Bool). P x w mail) (ap (λ (x : VisitOf A). x.opens) e ∙ o) h))

  -- what a walk over ranks finds and leaves is what the walk of the run does
  pub walked : (r : Result F AllocError) → IfOk r (λ f. AreFindsIn m w (accs f) (efforts f) (opened f)) → IfOk r (λ f. rounds f ≡ rounds_in (desk new).log) → Leaves desk m.opens w mail old r new → Walked r
  walked (Ok f) finds n left =
      let found : AreFindsIn v (world_by run set) (accs f) (efforts f) (opened f) =
      subst (λ (x : World). AreFindsIn v x (accs f) (efforts f) (opened f)) p (subst (λ (x : VisitOf A). AreFindsIn x w (accs f) (efforts f) (opened f)) e finds) in
      (used (desk new), (refl, kept), by_run (λ opens x y. HasRun opens x y (desk new)) left, record { finds = found; rounds_are = n })
  walked (Err x) finds n (inl same) = (unused, same, tt, tt)
  walked (Err x) finds n (inr begun) = (used (desk new), (refl, kept), by_run (λ opens x y. HasBegun opens x y (desk new)) begun, tt)

-- a report that was asked for
pub reported : (shows : Bool) (run : RunValue) (set : OrderedValue) (log : List Entry) (w : World) (report : ReportValue) → shows ≡ true → w ≡ world_by run set → report ≡ report_of run.opens w log → Some report ≡ walk_report shows run set log
reported true run set log w report s p told = ap (λ (r : ReportValue). Some r) (told ∙ ap (λ (x : World). report_of run.opens x log) p)
reported false run set log w report s p told = absurd (cc)

-- what a walk finds in its world it finds in the world of the sharing
pub finds_at : {A : Type 0} (v : VisitOf A) (run : RunValue) (set : OrderedValue) (log : List Entry) (accs : List A) (efforts : List Effort) (opened : List ℕ) (rounds : ℕ) (w : World) → w ≡ world_by run set
    → IsWalkOf v run set log accs efforts opened rounds → AreFindsIn v w accs efforts opened
finds_at v run set log accs efforts opened rounds w p walk = subst (λ (x : World). AreFindsIn v x accs efforts opened) (sym p) walk.finds

-- the forces of a walk, put into the order of the rows
pub forces_placed : (job : JobValue) (set : SetValue) (o : OrderedValue) (accs placed : List Acc3Value) → o ≡ in_key_order set → RowsCount set.bodies
    → accs ≡ map (fold_in (gravity_of job) (world_by (gravity_run job) o)) o.bodies → ArePlaced o.bodies accs placed → placed ≡ forces_of job set.bodies
forces_placed job set o accs placed e rows found are =
    let bodies : o.bodies ≡ ordered set.bodies = ap (λ (x : OrderedValue). x.bodies) e in
    let folds : map (fold_in (gravity_of job) (world_by (gravity_run job) o)) o.bodies ≡ map (λ b. whole (mass_of o.bodies) (force (settings_of job) o.bodies b)) o.bodies =
    map_same _ _ o.bodies (λ b h. fold-is-force (settings_of job) o.bodies b) in
    let all : accs ≡ map (λ b. whole (mass_of (ordered set.bodies)) (force (settings_of job) (ordered set.bodies) b)) (ordered set.bodies) =
    subst (λ (xs : List BodyValue). accs ≡ map (λ b. whole (mass_of xs) (force (settings_of job) xs b)) xs) bodies (found ∙ folds) in
    forces_back (settings_of job) set.bodies accs placed rows all (subst (λ (xs : List BodyValue). ArePlaced xs accs placed) bodies are)

-- a walk on a set in key order, and what it leaves of the wire
module _ {W : Type 0} (desk : W → Desk) (run : RunValue) (set : SetValue) (o : OrderedValue) (old new : W) (e : o ≡ in_key_order set) where
  -- what a walk that came to its end found, with the log that the wire has
  pub walk_here : {A X : Type 0} (v : VisitOf A) (accs : List A) (efforts : List Effort) (opened : List ℕ) (rounds : ℕ) (x : X) (wu : WireUse) → Wired desk old new wu → WalkLeaves {X = X} run o wu (Ok x)
      → IsWalkOf v run o (log_of wu) accs efforts opened rounds → IsWalkOf v run o (desk new).log accs efforts opened rounds
  walk_here v accs efforts opened rounds x unused wired left walk = absurd left
  walk_here v accs efforts opened rounds x (used d) wired left walk = subst (λ (l : List Entry). IsWalkOf v run o l accs efforts opened rounds) (sym (ap (λ (y : Desk). y.log) wired.0)) walk

  -- a walk that came to its end is a run that did
  pub ran_left : {X : Type 0} (x : X) (wu : WireUse) → WalkLeaves {X = X} run o wu (Ok x) → RunLeaves (Some run) set wu
  ran_left x unused left = absurd left
  ran_left x (used d) left = subst (λ (y : OrderedValue). HasRun run.opens (world_by run y) run.mail d) e left

  -- a run that came to its end, and then memory was refused
  pub ran_err : {X Y : Type 0} (x : X) (r : Result Y AllocError) (P : WireUse → Y → Type 0) (wu : WireUse) → IsErr r → Wired desk old new wu → WalkLeaves {X = X} run o wu (Ok x)
      → (u : WireUse) × Wired desk old new u × ComputeLeaves (Some run) set u r × IfOk r (P u)
  ran_err x (Ok y) P wu bad wired left = absurd (cc)
  ran_err x (Err y) P unused bad wired left = absurd left
  ran_err x (Err y) P (used d) bad wired left = (used d, wired, inr (ran_left x (used d) left).begun, tt)

-- what a run by gravity gives
pub ran : {W X : Type 0} (desk : W → Desk) (job : JobValue) (set : SetValue) (o : OrderedValue) (shows : Bool) (old new : W) (accs : List Acc3Value) (efforts : List Effort) (opened : List ℕ) (rounds : ℕ)
    (e : o ≡ in_key_order set) (x : X) (placed : List Acc3Value) (report : Option ReportValue) (wu : WireUse) → RowsCount set.bodies → Wired desk old new wu → WalkLeaves {X = X} (gravity_run job) o wu (Ok x)
    → IsWalkOf (gravity_of job) (gravity_run job) o (log_of wu) accs efforts opened rounds
    → report ≡ walk_report shows (gravity_run job) o (desk new).log
    → ArePlaced o.bodies accs placed
    → (u : WireUse) × Wired desk old new u × RunLeaves (Some (gravity_run job)) set u × IsRunOf job set shows (log_of u) o placed report
ran desk job set o shows old new accs efforts opened rounds e x placed report unused rows wired left walk told are = absurd left
ran desk job set o shows old new accs efforts opened rounds e x placed report (used d) rows wired left walk told are =
    let log : (desk new).log ≡ d.log = ap (λ (y : Desk). y.log) wired.0 in (
      used d,
      wired,
      ran_left desk (gravity_run job) set o old new e x (used d) left,
      record {
        ordered_is = e;
        forces_are = forces_placed job set o accs placed e rows walk.finds.accs_are are;
        report_is = told ∙ ap (λ (l : List Entry). walk_report shows (gravity_run job) o l) log ∙ ap (λ (y : OrderedValue). walk_report shows (gravity_run job) y d.log) e;
      },
    )

-- how many forces there are
pub forces_long : (job : JobValue) (bodies : List BodyValue) → length (forces_of job bodies) ≡ length bodies
forces_long job bodies = length-map bodies (λ b. whole (mass_of bodies) (force (settings_of job) bodies b))

-- a run that came to its end was begun
pub began : (run : RunValue) (set : SetValue) (u : WireUse) → RunLeaves (Some run) set u → RunBegan (Some run) set u
began run set unused left = absurd left
began run set (used d) left = left.begun

-- a sample of a run whose report is there
pub sampled : {W : Type 0} (desk : W → Desk) (old new : W) (job : JobValue) (set made : SetValue) (bodies seed : ℕ) (o : OrderedValue) (forces : List Acc3Value) (report : ReportValue) (s : SampleValue)
    → set ≡ made → (u : WireUse) → Wired desk old new u → RunLeaves (Some (gravity_run job)) set u → IsRunOf job set true (log_of u) o forces (Some report)
    → s ≡ record { bodies = bodies; seed = seed; report = report; sum = sum_of forces }
    → (wu : WireUse) × Wired desk old new wu × RunLeaves (Some (gravity_run job)) made wu × (s ≡ sample_of bodies seed job made (log_of wu))
sampled desk old new job set made bodies seed o forces report s e u wired left run is =
    let rep : report ≡ run_report (gravity_run job) set (log_of u) = (let h : Some report ≡ Some (run_report (gravity_run job) set (log_of u)) = run.report_is in cc) in
    let sum = ap sum_of run.forces_are in
    (u, wired, subst (λ (z : SetValue). RunLeaves (Some (gravity_run job)) z u) e left, is ∙ (rw (rep, sum, e) refl))
