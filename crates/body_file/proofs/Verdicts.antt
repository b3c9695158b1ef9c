-- Files without a fault have bodies.
use Rattle.std.proofs.Common.{◌≡◌, ℕ, suc, true, List, [], ◌∷◌, drop, Option, Some, None, Result, Ok, Err, refl, ap}
use Rattle.sdf_header.specs.declared.header_fault.HeaderFault.{HeaderFault}
use Rattle.sdf_header.specs.Layouts.{LayoutValue}
use Rattle.sdf_header.specs.Extent.{Extent, Faulty, Ends, Open, extent}
use Rattle.sdf_header.specs.Verdict.{verdict}
use Rattle.body_set.specs.Sets.{SetValue}
use Rattle.body_file.specs.declared.fault.FileFault.{FileFault}
use Rattle.body_file.specs.Faults.{is_known, set_before, decided_behind}
use Rattle.body_file.specs.Files.{with_file, set_by, set_behind, set_of_files, found_in, fault_from}
use Rattle.body_file.specs.Laws as laws
use Rattle.body_file.proofs.Lists.{none_found}

known_at_end : (e : Extent) → is_known true e ≡ true
known_at_end (Faulty f) = refl
known_at_end (Ends text len) = refl
known_at_end Open = refl

by_verdict : (before : Option SetValue) (bytes : List ℕ) (v : Result LayoutValue HeaderFault) → verdict bytes ≡ v → decided_behind before true bytes ≡ None → (set : SetValue) × (set_behind before bytes ≡ Some set)
unfolding decided_behind
by_verdict before bytes (Ok l) e h = (with_file (set_before before l.cube) l (drop l.header_len bytes), ap (set_by before bytes) e)
by_verdict before bytes (Err f) e h = absurd (cc (rw (known_at_end (extent bytes), e) at h))

no_fault : (k : ℕ) (o : Option FileFault) → found_in k o ≡ None → o ≡ None
no_fault k None e = refl
no_fault k (Some f) e = absurd cc

-- files without a fault that follow others have a set with them
pub has_set : (before : Option SetValue) (count : ℕ) (file : List ℕ) (files : List (List ℕ)) → fault_from before count (file ∷ files) ≡ None → (set : SetValue) × (set_of_files before (file ∷ files) ≡ Some set)
unfolding fault_from set_of_files
has_set before count file [] h =
    by_verdict before file (verdict file) refl (no_fault (suc count) (decided_behind before true file) (none_found (found_in (suc count) (decided_behind before true file)) None h).0)
has_set before count file (next ∷ files) h =
    has_set (set_behind before file) (suc count) next files (none_found (found_in (suc count) (decided_behind before true file)) (fault_from (set_behind before file) (suc count) (next ∷ files)) h).1

-- files without a fault have bodies
pub have_verdicts : laws.HaveVerdicts
have_verdicts file files h =
    let s = has_set None 0 file files h in
    (s.0, record { good = h; are = s.1 })
