-- How near the printed forces are to exact gravity, at ratio 0.
use Rattle.std.specs.Prelude.{ℕ, ◌≡◌, ◌<◌, List, length, get_or, Some, Ok}
use Rattle.hot_units.specs.Values.{BodyValue, Acc3Value}
use Rattle.hot_units.specs.declared.cube.Axis.TheVariants as axes
use Rattle.hot_io.specs.Writing.{IsWhole}
use Rattle.pull_bound.specs.Sums.{IsNearAlong}
use Rattle.body_set.specs.Sets.{SetValue}
use Rattle.body_file.specs.Files.{HasBodies}
use Rattle.hot_words.specs.Commands.{JobValue, forces}
use Rattle.hot_words.specs.Words.{command_of}
use Rattle.hot.specs.declared.status.Status.TheVariants.{Done}
use Rattle.hot.specs.Texts.{forces_in}
use Rattle.hot.specs.Call.{Run, files_in, IsAnswered}

-- each component of the force on b is near the exact sum over all bodies
pub record IsNearNewton (eps : ℕ) (bodies : List BodyValue) (b : BodyValue) (acc : Acc3Value) : Type 0 where
  pub x : IsNearAlong eps axes.X bodies b acc.ax
  pub y : IsNearAlong eps axes.Y bodies b acc.ay
  pub z : IsNearAlong eps axes.Z bodies b acc.az

-- all files were read to their ends, and of each of their bodies, in their order, numbers were printed that are near
pub record PrintsNear (run : Run) (job : JobValue) : Type 0 where
  pub files : List (List ℕ)
  pub set : SetValue
  pub accs : List Acc3Value
  pub read : files_in run ≡ Some files
  pub bodies : HasBodies files set
  pub printed : IsWhole (forces_in job.sdf set.idents accs) run.out
  pub all : length accs ≡ length set.bodies
  pub near : (i : ℕ) (b : BodyValue) (acc : Acc3Value) → i < length set.bodies → IsNearNewton job.eps set.bodies (get_or set.bodies i b) (get_or accs i acc)

-- so it is where words for forces at ratio 0 end with status 0
abbrev pub ForcesAreNear : Type 0
ForcesAreNear = (run : Run) (job : JobValue) → IsAnswered run Done → command_of run.words ≡ Ok (forces job) → job.ratio.num ≡ 0 → PrintsNear run job
