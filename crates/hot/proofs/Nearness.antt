-- The printed forces are near exact gravity, at ratio 0.
use Rattle.std.proofs.Common.{◌≡◌, ℕ, ◌<◌, ◌≤◌, Bool, true, false, ◌&&◌, if◌then◌else◌, nat_le, List, [], ◌∷◌, length, get_or, codes, Option, Some, None, Result, Ok, Err, refl, sym, subst, arith}
use Rattle.std.specs.Option.{unwrap_or}
use Rattle.std.proofs.lemmas.Bool.{leb-true}
use Rattle.std.proofs.lemmas.List.{length-map, get_or-map}
use Rattle.hot_io.specs.Writing.{IsWhole}
use Rattle.hot_units.specs.Limits.{max_softening}
use Rattle.hot_units.specs.Values.{BodyValue, Acc3Value}
use Rattle.hot_units.specs.Bodies.{mass_of}
use Rattle.hot_units.specs.declared.cube.Axis.TheVariants as axes
use Rattle.hot_model.specs.Trees.{force}
use Rattle.hot_model.specs.Forces.{whole}
use Rattle.pull_bound.proofs.Forces.{force-near}
use Rattle.body_set.specs.Sets.{SetValue}
use Rattle.hot_words.specs.declared.table.CommandName.{CommandName}
use Rattle.hot_words.specs.declared.table.CommandName.TheVariants as names
use Rattle.hot_words.specs.declared.faults.WordFault.{WordFault}
use Rattle.hot_words.specs.Options.{command_named}
use Rattle.hot_words.specs.Faults.{fault_first}
use Rattle.hot_words.specs.Numbers.{number_of, within, softening_of}
use Rattle.hot_words.specs.Places.{value_of}
use Rattle.hot_words.specs.Settings.{setting_of}
use Rattle.hot_words.specs.Commands.{JobValue, CommandValue, forces, split, make, sample, near}
use Rattle.hot_words.specs.Words.{command_by, unless_fault, command_behind, command_of}
use Rattle.hot.specs.declared.status.Status.TheVariants.{Done}
use Rattle.hot.specs.Runs.{settings_of, log_of}
use Rattle.hot.specs.Texts.{forces_of, output_text}
use Rattle.hot.specs.Call.{Run, AreBodies, files_in, IsAnswered}
use Rattle.hot.specs.Nearness.{IsNearNewton, PrintsNear}
use Rattle.hot.proofs.CallEndings.{Ending, wrote, refused, faulty, broke, hungry, cut_err, cut_out, ending}

-- ---- the softening of a command is at least 1

-- a number that is there is at least so large
abbrev IsFrom : ℕ → Option ℕ → Type 0
IsFrom low None = Unit {0}
IsFrom low (Some n) = low ≤ n

within_from : (low high : ℕ) (o : Option ℕ) → IsFrom low (within low high o)
within_from low high None = tt
within_from low high (Some n) = by_tests (nat_le low n) (nat_le n high) refl
  where
    by_tests : (t u : Bool) → nat_le low n ≡ t → IsFrom low (if t && u then Some n else None)
    by_tests true true e = leb-true low n e
    by_tests true false e = tt
    by_tests false u e = tt

or_default : (o : Option ℕ) → IsFrom 1 o → 1 ≤ unwrap_or o 256
or_default None h = omega arith
or_default (Some n) h = h

softening_from : (value : Option (List ℕ)) → 1 ≤ setting_of softening_of 256 value
softening_from None = omega arith
softening_from (Some word) = or_default (softening_of word) (within_from 1 max_softening (number_of word))

-- the softening that words give, and 1 where they give none
abbrev softening_in : Result CommandValue WordFault → ℕ
softening_in (Ok (forces job)) = job.eps
softening_in (Ok (split ranks first files)) = 1
softening_in (Ok (make bodies seed)) = 1
softening_in (Ok (sample bodies seed job)) = 1
softening_in (Ok (near radius job)) = 1
softening_in (Err fault) = 1

by_name : (name : CommandName) (words : List (List ℕ)) (fault : Option WordFault) → 1 ≤ softening_in (unless_fault fault (command_by name words))
by_name name words (Some fault) = omega arith
by_name names.Forces words None = softening_from (value_of names.Forces words (codes "--eps"))
by_name names.Split words None = omega arith
by_name names.Make words None = omega arith
by_name names.Sample words None = omega arith
by_name names.Near words None = omega arith

by_command : (name : Option CommandName) (words : List (List ℕ)) → 1 ≤ softening_in (command_behind name words)
by_command None words = omega arith
by_command (Some name) words = by_name name words (fault_first name words)

by_words : (words : List (List ℕ)) → 1 ≤ softening_in (command_of words)
by_words [] = omega arith
by_words (word ∷ rest) = by_command (command_named word) (word ∷ rest)

softens : (words : List (List ℕ)) (job : JobValue) → command_of words ≡ Ok (forces job) → 1 ≤ job.eps
softens words job e = subst (λ r. 1 ≤ softening_in r) e (by_words words)

-- ---- what was printed

-- the force on a body is near
force_near : (job : JobValue) (bodies : List BodyValue) (b : BodyValue) → job.ratio.num ≡ 0 → 1 ≤ job.eps → IsNearNewton job.eps bodies b (whole (mass_of bodies) (force (settings_of job) bodies b))
force_near job bodies b e h = record {
  x = force-near (settings_of job) bodies b axes.X e h;
  y = force-near (settings_of job) bodies b axes.Y e h;
  z = force-near (settings_of job) bodies b axes.Z e h;
}

-- and so is what stands at its place
at_place : (job : JobValue) (bodies : List BodyValue) → job.ratio.num ≡ 0 → 1 ≤ job.eps → (i : ℕ) (b : BodyValue) (acc : Acc3Value) → i < length bodies → IsNearNewton job.eps bodies (get_or bodies i b) (get_or (forces_of job bodies) i acc)
at_place job bodies e h i b acc l =
    let f : BodyValue → Acc3Value = λ o. whole (mass_of bodies) (force (settings_of job) bodies o) in
    subst (λ (v : Acc3Value). IsNearNewton job.eps bodies (get_or bodies i b) v) (sym (get_or-map f bodies i b acc l)) (force_near job bodies (get_or bodies i b) e h)

printed : (run : Run) (job : JobValue) (set : SetValue) → AreBodies (forces job) (files_in run) set → IsWhole (output_text (forces job) set (log_of run.wire)) run.out → job.ratio.num ≡ 0 → 1 ≤ job.eps → PrintsNear run job
printed run job set are out e h = record {
  files = are.0;
  set = set;
  accs = forces_of job set.bodies;
  read = are.1;
  bodies = are.2;
  printed = out;
  all = length-map set.bodies (λ b. whole (mass_of set.bodies) (force (settings_of job) set.bodies b));
  near = at_place job set.bodies e h;
}

ends_near : (run : Run) (job : JobValue) → Ending run Done → command_of run.words ≡ Ok (forces job) → job.ratio.num ≡ 0 → PrintsNear run job
ends_near run job (wrote s command set comes out err) asked e =
    let given = comes.0.asked in
    let same : command ≡ forces job = cc in
    printed run job set
    (subst (λ (c : CommandValue). AreBodies c (files_in run) set) same comes.0.bodies)
    (subst (λ (c : CommandValue). IsWhole (output_text c set (log_of run.wire)) run.out) same out)
    e (softens run.words job asked)
ends_near run job (refused s fault comes out err) asked e = absurd cc
ends_near run job (faulty s fault comes out err) asked e = absurd cc
ends_near run job (broke s comes out err) asked e = absurd cc
ends_near run job (hungry s comes out) asked e = absurd cc
ends_near run job (cut_err s err) asked e = absurd cc
ends_near run job (cut_out s out command set comes) asked e = absurd cc

-- where words for forces at ratio 0 end with status 0, what is printed is near exact gravity
pub forces_near : (run : Run) (job : JobValue) → IsAnswered run Done → command_of run.words ≡ Ok (forces job) → job.ratio.num ≡ 0 → PrintsNear run job
forces_near run job is asked e = ends_near run job (ending run Done is) asked e
