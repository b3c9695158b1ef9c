use Rattle.std.proofs.Common.{◌≡◌, suc, ◌+◌, ◌<◌, [], ◌∷◌, ◌++◌, length, map, refl, subst, arith, length-append}
use Rattle.body_file.specs.Reading.{AreRead}
use Rattle.body_file.specs.Files.{all_read}
use Rattle.body_file.proofs.Batches.{none_read, one_more, stands_at, stands_all, prompt_at, prompt_all, stopped_there, reads_all, name_at, names_length, set_is_some, allowed_at}
use Rattle.body_file.proofs.files.read_bodies.Goals as goal

-- at first no file was read
pub files-init : goal.files-init
files-init g c = record { counted = refl; read = ([], refl, none_read g.S.Source (map (λ name. name.now) c.args.names.now) c.args.source.now c.requires.closed) }

-- the next open may have the next name
pub read_file-requires-clause-allowed : goal.read_file-requires-clause-allowed
read_file-requires-clause-allowed g c =
    let inv = c.files.invariant.read in
    let names = map (λ name. name.now) c.args.names.now in
    allowed_at g.S.Source names inv.0 c.args.source.now c.files.source c.files.set _ inv.2 (omega (arith, c.files.invariant.counted, inv.1, names_length c.args.names.now)) (name_at c.args.names.now c.files.name-index (length inv.0) (omega (arith, c.files.invariant.counted, inv.1))) c.requires.allowed

-- where a file was not read, the files were not
pub returns-in-Err-clause-answer : goal.returns-in-Err-clause-answer
returns-in-Err-clause-answer g c =
    let inv = c.files.invariant.read in
    let names = map (λ name. name.now) c.args.names.now in
    let at = c.in-Err.ensures.answer in
    let long = names_length c.args.names.now in
    let more : length inv.0 < length names = omega (arith, c.files.invariant.counted, inv.1, long) in
    let is = name_at c.args.names.now c.files.name-index (length inv.0) (omega (arith, c.files.invariant.counted, inv.1)) in
    let number : suc (length inv.0) ≡ c.files.count + 1 = omega (arith, inv.1) in (
      record { whole = inv.0; next = at.0 },
      stands_at g.S.Source names c.args.source.now inv.0 c.files.source c.read_file.new.source c.files.set _ at.0 inv.2 more is at.1,
      prompt_at g.S.Source names inv.0 c.args.source.now c.files.source c.files.set at.0 inv.2 more (omega (arith, long, c.requires.files)) at.2,
      rw (c.stop.ensures, ← number) (stopped_there g.S.Source names inv.0 c.args.source.now c.files.source c.files.set at.0 c.in-Err.error inv.2 at.3),
    )

-- a file that was read is one more of them
pub files-preserved : goal.files-preserved
files-preserved g c =
    let inv = c.files.invariant.read in
    let names = map (λ name. name.now) c.args.names.now in
    let at = c.in-Ok.ensures.answer in
    let more : length inv.0 < length names = omega (arith, c.files.invariant.counted, inv.1, names_length c.args.names.now) in
    let is = name_at c.args.names.now c.files.name-index (length inv.0) (omega (arith, c.files.invariant.counted, inv.1)) in
    let long = length-append inv.0 (at.3.bytes ∷ []) in
    record {
      counted = omega (arith, c.files.invariant.counted);
      read = (inv.0 ++ at.3.bytes ∷ [], omega (arith, long, inv.1), one_more g.S.Source names c.args.source.now inv.0 c.files.source c.read_file.new.source c.files.set _ at.0 c.in-Ok.read inv.2 more is at.1 c.in-Ok.ensures.files c.in-Ok.ensures.names at.3);
    }

-- behind at least one file there is a set
pub unwrap-requires : goal.unwrap-requires
unwrap-requires g c =
    let inv = c.files.invariant.read in
    let names = map (λ name. name.now) c.args.names.now in
    set_is_some g.S.Source names inv.0 c.args.source.now c.files.source c.files.set inv.2 (omega (arith, c.files.invariant.counted, inv.1, c.requires.some, c.files-test.false))

-- where all files were read, the set has their bodies
pub returns-clause-answer : goal.returns-clause-answer
returns-clause-answer g c =
    let inv = c.files.invariant.read in
    let names = map (λ name. name.now) c.args.names.now in
    let long = names_length c.args.names.now in
    let read = subst (AreRead g.S.Source names inv.0 c.args.source.now c.files.source) c.unwrap.ensures inv.2 in
    let all : length inv.0 ≡ length c.args.names.now = omega (arith, c.files.invariant.counted, inv.1, c.files-test.false) in (
      all_read inv.0,
      stands_all g.S.Source names c.args.source.now inv.0 c.files.source c.files.set inv.2,
      prompt_all g.S.Source names inv.0 c.args.source.now c.files.source c.files.set inv.2 (omega (arith, long, c.requires.files)),
      reads_all g.S.Source names inv.0 c.args.source.now c.files.source c.unwrap.result read (length c.args.names.now) all,
    )
