-- What a run over ranks shows.
use Rattle.std.specs.Prelude.{ℕ, ◌≤◌, ◌+◌, ◌-◌, ◌*◌, ◌^◌, ◌+ℤ◌, ◌↔◌, ◌⊎◌, nat_abs, Bool, List, length, map, sum_by, Contains}
use Rattle.std.specs.List.Sorted.{IsStrictlyIncreasing}
use Rattle.hot_units.specs.Values.{BodyValue, CellValue, Acc3Value, Vector}
use Rattle.hot_units.specs.Numbers.{numbers_below}
use Rattle.hot_model.specs.Trees.{total}
use Rattle.rank_model.specs.World.{World}
use Rattle.rank_model.specs.Needs.{met_cells, round_bound}
use Rattle.wire.specs.declared.entry.Entry.{Entry}
use Rattle.wire.specs.Desk.{letters_in, rounds_in}
use Rattle.branch_merge.specs.declared.listed.Listed.{Listed}
use Rattle.split_table.specs.Table.{branch_cells, branch_of}
use Rattle.rank_set.specs.declared.found.Effort.{Effort}
use Rattle.rank_set.specs.Efforts.{effort_of}
use Rattle.run_report.specs.declared.sample.ForceSum.{ForceSum}

-- what each rank does; the branches with their ranks; the letters and the rounds; the cells in play; the bound on rounds
pub record ReportValue : Type 0 where
  pub efforts : List Effort
  pub branches : List Listed
  pub letters : ℕ
  pub rounds : ℕ
  pub cells : ℕ
  pub bound : ℕ

-- what a run with this log shows: letters and rounds are those of the log, all else is that of the world
abbrev pub report_of : (BodyValue → CellValue → Bool) → World → List Entry → ReportValue
report_of opens w log = record {
  efforts = map (effort_of opens w) (numbers_below w.ranks);
  branches = map (branch_of w) (branch_cells w);
  letters = letters_in log;
  rounds = rounds_in log;
  cells = length (met_cells opens w);
  bound = round_bound opens w;
}

-- the keys of the cells that are opened or branches, ascending, each once
pub record AreInPlay (opened : List ℕ) (branches : List Listed) (keys : List ℕ) : Type 0 where
  pub ascend : IsStrictlyIncreasing keys
  pub all : (c : ℕ) → Contains keys c ↔ (Contains opened c ⊎ Contains (map (λ b. b.rec.key) branches) c)

-- how many rounds a run of so many ranks has at most, with so many cells in play
abbrev pub most_rounds : ℕ → ℕ → ℕ
most_rounds ranks cells = (ranks - 1) * (ranks + 2 * cells) + 1

-- the force that was found
abbrev pub vector_of : Acc3Value → Vector
vector_of a = record { x = a.ax; y = a.ay; z = a.az }

-- the sum of the forces
abbrev pub sum_of : List Acc3Value → ForceSum
sum_of forces = record {
  x = (total (map vector_of forces)).x;
  y = (total (map vector_of forces)).y;
  z = (total (map vector_of forces)).z;
}

-- the sum of so many forces is no larger than they can be
pub record IsSumOf (count : ℕ) (sum : ForceSum) : Type 0 where
  pub x_in : nat_abs sum.x ≤ count * 2 ^ 80
  pub y_in : nat_abs sum.y ≤ count * 2 ^ 80
  pub z_in : nat_abs sum.z ≤ count * 2 ^ 80

-- a sum with one force more
abbrev pub one_more : ForceSum → Acc3Value → ForceSum
one_more sum a = record { x = sum.x +ℤ a.ax; y = sum.y +ℤ a.ay; z = sum.z +ℤ a.az }

-- what is shown of a run on generated bodies: their number and seed, what the run shows, and the sum of the forces
pub record SampleValue : Type 0 where
  pub bodies : ℕ
  pub seed : ℕ
  pub report : ReportValue
  pub sum : ForceSum

-- how many pairs all ranks open, and how many cells they need
abbrev pub all_opened : ReportValue → ℕ
all_opened r = sum_by (λ e. e.opened) r.efforts

-- how many cells all ranks need together
abbrev pub all_asks : ReportValue → ℕ
all_asks r = sum_by (λ e. e.asks) r.efforts
