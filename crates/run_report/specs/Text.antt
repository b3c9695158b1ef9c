-- A report as text, and the line of a run on generated bodies.
use Rattle.std.specs.Prelude.{ℕ, List, ◌++◌, length, flat_map, codes, decimal}
use Rattle.std.specs.Fmt.{signed_decimal}
use Rattle.hot_io.specs.Writing.{line_end}
use Rattle.branch_merge.specs.declared.listed.Listed.{Listed}
use Rattle.rank_set.specs.declared.found.Effort.{Effort}
use Rattle.run_report.specs.declared.sample.ForceSum.{ForceSum}
use Rattle.run_report.specs.Report.{ReportValue, SampleValue, all_opened, all_asks}

-- the first line says what follows
abbrev pub first_line : List ℕ
first_line = codes "# hot report 1\n"

-- the line of a rank
abbrev pub rank_line : Effort → List ℕ
rank_line e =
    codes "rank " ++ decimal e.rank ++ codes " bodies " ++ decimal e.bodies ++ codes " opened " ++ decimal e.opened
    ++ codes " asks " ++ decimal e.asks ++ line_end

-- the line of a branch
abbrev pub branch_line : Listed → List ℕ
branch_line b = codes "branch " ++ decimal b.rec.key ++ codes " rank " ++ decimal b.rank ++ line_end

-- the line of totals
abbrev pub totals_line : ReportValue → List ℕ
totals_line r =
    codes "letters " ++ decimal r.letters ++ codes " rounds " ++ decimal r.rounds ++ codes " cells " ++ decimal r.cells
    ++ codes " bound " ++ decimal r.bound ++ line_end

-- the last line
abbrev pub last_line : List ℕ
last_line = codes "# end report\n"

-- the text of a report
abbrev pub report_text : ReportValue → List ℕ
report_text r = first_line ++ flat_map rank_line r.efforts ++ flat_map branch_line r.branches ++ totals_line r ++ last_line

-- what all ranks did
abbrev pub ranks_part : ReportValue → List ℕ
ranks_part r = codes " ranks " ++ decimal (length r.efforts) ++ codes " opened " ++ decimal (all_opened r) ++ codes " asks " ++ decimal (all_asks r)

-- the cells in play, and what the log shows
abbrev pub log_part : ReportValue → List ℕ
log_part r = codes " cells " ++ decimal r.cells ++ codes " letters " ++ decimal r.letters ++ codes " rounds " ++ decimal r.rounds

-- the sum of the forces
abbrev pub sum_part : ForceSum → List ℕ
sum_part v = codes " sum " ++ signed_decimal v.x ++ codes " " ++ signed_decimal v.y ++ codes " " ++ signed_decimal v.z

-- the line of a run on generated bodies
abbrev pub sample_line : SampleValue → List ℕ
sample_line s =
    codes "sample bodies " ++ decimal s.bodies ++ codes " seed " ++ decimal s.seed
    ++ ranks_part s.report ++ log_part s.report ++ sum_part s.sum ++ line_end
