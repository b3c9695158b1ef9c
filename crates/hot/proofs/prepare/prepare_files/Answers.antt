use Rattle.std.proofs.Common.{ℕ, refl, sym, subst, map}
use Rattle.std.proofs.lemmas.List.{length-map}
use Rattle.hot_words.specs.Commands.{command_value}
use Rattle.body_file.specs.Files.{ReadsBodies}
use Rattle.hot.specs.Runs.{unused}
use Rattle.hot.specs.Prepared.{Holds, stopped}
use Rattle.hot.proofs.Outcomes.{holds_stopped, holds_files, holds_starved}
use Rattle.hot.proofs.prepare.prepare_files.Goals as goal

-- where no bodies were read, what the reading comes to is at hand
pub returns-in-Err : goal.returns-in-Err
returns-in-Err g c = record {
  prepared =
      let read = c.in-Err.ensures.answer in
      let names = map (λ name. name.now) c.args.names.now in
      let count = length-map c.args.names.now (λ name. name.now) in
      (read.0, unused, read.1, refl, (λ words is. rw c.stop.ensures (subst (λ (n : ℕ). Holds words read.0 unused (stopped n c.in-Err.error)) count (holds_stopped words (command_value c.args.command.now) names read.0 c.in-Err.error is read.2 read.3))));
}

-- the answer on the bodies of the files is at hand, with what its run left
pub returns-in-Ok-compute : goal.returns-in-Ok-compute
returns-in-Ok-compute g c = record {
  prepared =
      let read = c.in-Ok.ensures.answer in
      let run = c.in-Ok-compute.ensures.computed in
      let names = map (λ name. name.now) c.args.names.now in
      let count = length-map c.args.names.now (λ name. name.now) in
      (read.0, run.0, read.1, run.1, (λ words is. holds_files words (command_value c.args.command.now) names read.0 c.in-Ok.set run.0 c.in-Ok-compute.answer is read.2 (subst (λ (n : ℕ). ReadsBodies n read.0 c.in-Ok.set) (sym count) read.3) run.2 run.3));
}

-- where memory lacks for the answer, that is at hand, with what the run left
pub returns-in-Err-compute : goal.returns-in-Err-compute
returns-in-Err-compute g c = record {
  prepared =
      let read = c.in-Ok.ensures.answer in
      let run = c.in-Err-compute.ensures.computed in
      let names = map (λ name. name.now) c.args.names.now in
      let count = length-map c.args.names.now (λ name. name.now) in
      (read.0, run.0, read.1, run.1, (λ words is. holds_starved words (command_value c.args.command.now) names read.0 c.in-Ok.set run.0 is read.2 (subst (λ (n : ℕ). ReadsBodies n read.0 c.in-Ok.set) (sym count) read.3) run.2));
}
