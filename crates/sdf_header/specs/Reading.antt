-- What the reader answers to a piece, and what it keeps.
use Rattle.std.specs.Prelude.{◌≡◌, ℕ, ◌-◌, Bool, true, false, List, ◌++◌, length, take, Option, Some, None, Result, Ok, Err}
use Rattle.std.specs.Borrow.{Bor}
use Rattle.std.specs.List.{flat_map}
use Rattle.sdf_header.specs.declared.header_fault.HeaderFault.{HeaderFault}
use Rattle.sdf_header.specs.declared.reader.Fed.{Fed}
use Rattle.sdf_header.specs.declared.reader.Fed.TheVariants.{More, Ended}
use Rattle.sdf_header.specs.Extent.{Extent, Faulty, Ends, Open, extent}
use Rattle.sdf_header.specs.Verdict.{verdict}

-- what the bytes so far show, where so many of them were there before the piece
abbrev pub told : Extent → ℕ → Result Fed HeaderFault
told (Faulty f) before = Err f
told Open before = Ok More
told (Ends text len) before = Ok (Ended (len - before))

-- the bytes of the piece that belong to the header
abbrev pub taken_of : Fed → List ℕ → List ℕ
taken_of More piece = piece
taken_of (Ended n) piece = take n piece

-- a fault stays the fault; behind the end no byte belongs to the header, and none changes its verdict
abbrev pub Settled : Result Fed HeaderFault → List ℕ → Type 0
Settled (Err f) bytes = (more : List ℕ) → (extent (bytes ++ more) ≡ Faulty f) × (verdict (bytes ++ more) ≡ Err f)
Settled (Ok More) bytes = Unit {0}
Settled (Ok (Ended n)) bytes = (text : ℕ) × ((more : List ℕ) → (extent (bytes ++ more) ≡ Ends text (length bytes)) × (verdict (bytes ++ more) ≡ verdict bytes))

-- whatever follows, these beginnings of an input show the same and have the same verdict
abbrev pub ReadAlike : List ℕ → List ℕ → Type 0
ReadAlike a b = (more : List ℕ) → (extent (a ++ more) ≡ extent (b ++ more)) × (verdict (a ++ more) ≡ verdict (b ++ more))

-- the bytes of the pieces, one piece behind the other
abbrev pub joined : List (Bor (List ℕ)) → List ℕ
joined pieces = flat_map (λ piece. piece.now) pieces

-- ---- how the reader keeps what it has found

-- nothing is decided yet
abbrev pub is_open : Result (Option ℕ) HeaderFault → Bool
is_open (Ok None) = true
is_open (Ok (Some text)) = false
is_open (Err f) = false

-- the answer where so many bytes of the piece were taken
abbrev pub answer_of : Result (Option ℕ) HeaderFault → ℕ → Result Fed HeaderFault
answer_of (Ok None) taken = Ok More
answer_of (Ok (Some text)) taken = Ok (Ended taken)
answer_of (Err f) taken = Err f
