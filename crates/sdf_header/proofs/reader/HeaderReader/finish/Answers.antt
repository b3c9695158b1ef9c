use Rattle.std.proofs.Common.{ℕ, ap, ◌≡◌, length, Option, Some, None, Ok, sym, ◌∙◌, arith}
use Rattle.std.proofs.lemmas.List.{length-take-le}
use Rattle.sdf_header.proofs.Known.{is_failed, is_unended, is_ended}
use Rattle.sdf_header.proofs.reader.HeaderReader.finish.Goals as goal

pub returns-in-Err-clause-value : goal.returns-in-Err-clause-value
returns-in-Err-clause-value c =
    rw (← c.self.view_is) (is_failed c.self.inside.found c.self.inside.kept.items c.self.inside.line c.in-Err.fault c.in-Err.is c.self.invariant.0)

pub returns-in_default-clause-value : goal.returns-in_default-clause-value
returns-in_default-clause-value c =
    let e : c.self.inside.found ≡ Ok None = c.in-Ok.is ∙ ap (λ (o : Option ℕ). Ok o) c.in_default.is in
    let v = is_unended c.self.inside.found c.self.inside.kept.items c.self.inside.line e c.self.invariant.0 in
    let n : c.len.result ≡ length c.self.inside.kept.items = omega (arith, c.self.inside.kept.ok.0) in
    rw (← c.self.view_is, c.unended.ensures, n) v

pub slice_bounds-judge-end : goal.slice_bounds-judge-end
slice_bounds-judge-end c =
    let e : c.self.inside.found ≡ Ok (Some c.in-Some.text) = c.in-Ok.is ∙ ap (λ (o : Option ℕ). Ok o) c.in-Some.is in
    let v = is_ended c.self.inside.found c.self.inside.kept.items c.self.inside.line c.in-Some.text e c.self.invariant.0 in
    let le = v.1 in
    rw c.deref.ensures.value (sym (length-take-le c.in-Some.text c.self.inside.kept.items le))

pub overflow_cast-len : goal.overflow_cast-len
overflow_cast-len c =
    let e : c.self.inside.found ≡ Ok (Some c.in-Some.text) = c.in-Ok.is ∙ ap (λ (o : Option ℕ). Ok o) c.in-Some.is in
    let v = is_ended c.self.inside.found c.self.inside.kept.items c.self.inside.line c.in-Some.text e c.self.invariant.0 in
    let le = v.2 in
    let n : c.len-2.result ≡ length c.self.inside.kept.items = omega (arith, c.self.inside.kept.ok.0) in
    omega (arith, le, n)

pub judge-requires : goal.judge-requires
judge-requires c =
    let e : c.self.inside.found ≡ Ok (Some c.in-Some.text) = c.in-Ok.is ∙ ap (λ (o : Option ℕ). Ok o) c.in-Some.is in
    let v = is_ended c.self.inside.found c.self.inside.kept.items c.self.inside.line c.in-Some.text e c.self.invariant.0 in
    let a = v.1 in
    let b = v.2 in
    let t = length-take-le c.in-Some.text c.self.inside.kept.items a in
    rw c.deref.ensures.value (omega (arith, t, a, b))

pub returns-clause-value : goal.returns-clause-value
returns-clause-value c =
    let e : c.self.inside.found ≡ Ok (Some c.in-Some.text) = c.in-Ok.is ∙ ap (λ (o : Option ℕ). Ok o) c.in-Some.is in
    let v = is_ended c.self.inside.found c.self.inside.kept.items c.self.inside.line c.in-Some.text e c.self.invariant.0 in
    let n : c.len-2.result ≡ length c.self.inside.kept.items = omega (arith, c.self.inside.kept.ok.0) in
    let h = rw (n, c.deref.ensures.value) at c.judge.ensures.value in
    rw (← c.self.view_is, v.0) h
