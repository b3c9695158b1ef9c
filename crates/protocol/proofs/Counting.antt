-- How often a note stands in the log of what was taken, and in that of what was posted.
use Rattle.std.proofs.Common.{◌≡◌, ◌+◌, ◌≤◌, Bool, true, false, ◌&&◌, eqb, List, [], ◌∷◌, ◌++◌, refl, ap, arith, sym, subst, true≢false}
use Rattle.std.specs.Prelude.{cond}
use Rattle.std.specs.List.{count_by}
use Rattle.std.specs.Bool.{Decides}
use Rattle.std.specs.Cmp.Lexicographic.{pointwise, bytes_decides}
use Rattle.std.proofs.lemmas.Bool.Decides.{Decides-eqb}
use Rattle.std.proofs.lemmas.List.Sums.{sum_by-cons}
use Rattle.hot_units.specs.Values.{BodyValue, CellValue}
use Rattle.rank_model.specs.World.{World}
use Rattle.cell_mail.specs.declared.content.Kind.{Kind}
use Rattle.cell_mail.specs.declared.content.Kind.TheVariants.{Branches, Asks, Answers}
use Rattle.cell_mail.specs.declared.note.Note.{Note}
use Rattle.wire.specs.declared.entry.Entry.{Entry}
use Rattle.wire.specs.declared.entry.Entry.TheVariants.{Posted, Taken, Round}
use Rattle.cell_mail.specs.Notes.{note_of}
use Rattle.rank_core.specs.Times.{flag}
use Rattle.protocol.specs.Counts.{in_posted, in_taken, same_kind, same_note, posted_notes, taken_notes}
use Rattle.protocol.specs.Logs.{Legal}
use Rattle.protocol.proofs.Bounds.{taken_posted}

kinds_decide : (j k : Kind) → Decides (same_kind j k) (j ≡ k)
kinds_decide Branches Branches = (λ e. refl, λ e. refl)
kinds_decide Branches Asks = (λ e. absurd (true≢false (sym e)), λ e. absurd (let x : Branches ≡ Asks = e in cc))
kinds_decide Branches Answers = (λ e. absurd (true≢false (sym e)), λ e. absurd (let x : Branches ≡ Answers = e in cc))
kinds_decide Asks Branches = (λ e. absurd (true≢false (sym e)), λ e. absurd (let x : Asks ≡ Branches = e in cc))
kinds_decide Asks Asks = (λ e. refl, λ e. refl)
kinds_decide Asks Answers = (λ e. absurd (true≢false (sym e)), λ e. absurd (let x : Asks ≡ Answers = e in cc))
kinds_decide Answers Branches = (λ e. absurd (true≢false (sym e)), λ e. absurd (let x : Answers ≡ Branches = e in cc))
kinds_decide Answers Asks = (λ e. absurd (true≢false (sym e)), λ e. absurd (let x : Answers ≡ Asks = e in cc))
kinds_decide Answers Answers = (λ e. refl, λ e. refl)

both : (a b : Bool) → (a && b) ≡ true → (a ≡ true) × (b ≡ true)
both true b e = (refl, e)
both false b e = absurd (true≢false (sym e))

joined : (a b : Bool) → a ≡ true → b ≡ true → (a && b) ≡ true
joined a b e f = subst (λ (x : Bool). (x && b) ≡ true) (sym e) f

-- the test of two notes is true exactly where they are the same
pub same_note-decides : (m n : Note) → Decides (same_note m n) (m ≡ n)
same_note-decides m n = (alike, told)
  where
    keys : Bool
    keys = pointwise eqb m.keys n.keys

    alike : same_note m n ≡ true → m ≡ n
    alike h =
        let a = both (same_kind m.kind n.kind) (eqb m.from n.from && (eqb m.to n.to && pointwise eqb m.keys n.keys)) h in
        let b = both (eqb m.from n.from) (eqb m.to n.to && pointwise eqb m.keys n.keys) a.1 in
        let c = both (eqb m.to n.to) (pointwise eqb m.keys n.keys) b.1 in
        let k : m.kind ≡ n.kind = (kinds_decide m.kind n.kind).0 a.0 in
        let f : m.from ≡ n.from = (Decides-eqb m.from n.from).0 b.0 in
        let t : m.to ≡ n.to = (Decides-eqb m.to n.to).0 c.0 in
        let s : m.keys ≡ n.keys = (bytes_decides m.keys n.keys).0 c.1 in
        λ i. record { from = f i; to = t i; kind = k i; keys = s i }

    told : m ≡ n → same_note m n ≡ true
    told e =
        joined (same_kind m.kind n.kind) _ ((kinds_decide m.kind n.kind).1 (ap (λ (x : Note). x.kind) e))
        (joined (eqb m.from n.from) _ ((Decides-eqb m.from n.from).1 (ap (λ (x : Note). x.from) e))
        (joined (eqb m.to n.to) _ ((Decides-eqb m.to n.to).1 (ap (λ (x : Note). x.to) e))
        ((bytes_decides m.keys n.keys).1 (ap (λ (x : Note). x.keys) e))))

flag-is : (b : Bool) → cond b 1 0 ≡ flag b
flag-is true = refl
flag-is false = refl

posted-count : (f : Note → Bool) (log : List Entry) → count_by f (posted_notes log) ≡ in_posted (λ m. flag (f m)) log
posted-count f [] = refl
posted-count f (Posted l ∷ log) = (
    let a = flag-is (f (note_of l)) in let b = posted-count f log in
    let e : count_by f (posted_notes (Posted l ∷ log)) ≡ cond (f (note_of l)) 1 0 + count_by f (posted_notes log) = sum_by-cons (λ (m : Note). cond (f m) 1 0) (note_of l) (posted_notes log) in omega arith)
posted-count f (Taken n ∷ log) = posted-count f log
posted-count f (Round ∷ log) = posted-count f log

taken-count : (f : Note → Bool) (log : List Entry) → count_by f (taken_notes log) ≡ in_taken (λ m. flag (f m)) log
taken-count f [] = refl
taken-count f (Posted l ∷ log) = taken-count f log
taken-count f (Taken n ∷ log) = (
    let a = flag-is (f n) in let b = taken-count f log in
    let e : count_by f (taken_notes (Taken n ∷ log)) ≡ cond (f n) 1 0 + count_by f (taken_notes log) = sum_by-cons (λ (m : Note). cond (f m) 1 0) n (taken_notes log) in omega arith)
taken-count f (Round ∷ log) = taken-count f log

-- a front of a legal log is legal
pub legal_front : (opens : BodyValue → CellValue → Bool) (w : World) (later front : List Entry) → Legal opens w (later ++ front) → Legal opens w front
legal_front opens w [] front h = h
legal_front opens w (e ∷ later) front h = legal_front opens w later front h.0

-- in each front of a legal log a note was taken at most as often as it was posted
pub taken_most : (opens : BodyValue → CellValue → Bool) (w : World) (later front : List Entry) (n : Note) → Legal opens w (later ++ front) → count_by (same_note n) (taken_notes front) ≤ count_by (same_note n) (posted_notes front)
taken_most opens w later front n h =
    let a = taken_posted opens w (same_note n) front (legal_front opens w later front h) in
    let b = taken-count (same_note n) front in
    let c = posted-count (same_note n) front in
    omega arith
