-- What each verdict says of the input, in the terms of its tokens and statements.
use Rattle.std.specs.Prelude.{◌≡◌, ◌↔◌, ◌⊎◌, ℕ, List, take, length, Result, Ok, Err}
use Rattle.sdf_header.specs.declared.header_fault.HeaderFault.{HeaderFault}
use Rattle.sdf_header.specs.declared.header_fault.HeaderFault.TheVariants as faults
use Rattle.sdf_tokens.specs.declared.fault.FaultKind.{FaultKind}
use Rattle.sdf_tokens.specs.declared.fault.FaultKind.TheVariants as kinds
use Rattle.sdf_header.specs.Layouts.{LayoutValue}
use Rattle.sdf_header.specs.Statements.{Header}
use Rattle.header_grammar.specs.Faults.{FaultAt, IsHeader}
use Rattle.sdf_header.specs.Extent.{Faulty, Ends, Open, extent}
use Rattle.sdf_header.specs.Verdict.{layout_of, unended, verdict}

-- the text in front of the ending line is a header of fitting statements, and what they say gives this
pub record SaysOf (bytes : List ℕ) (given : Result LayoutValue HeaderFault) : Type 0 where
  pub text : ℕ
  pub len : ℕ
  pub header : Header
  pub ends : extent bytes ≡ Ends text len
  pub is : IsHeader (take text bytes) header
  pub gives : layout_of len header ≡ given

-- a token of the text in front of the ending line, at this place, decides a fault of this kind
pub record TokenFault (bytes : List ℕ) (kind : FaultKind) (place : ℕ) : Type 0 where
  pub text : ℕ
  pub len : ℕ
  pub ends : extent bytes ≡ Ends text len
  pub fault : FaultAt (take text bytes) kind place

-- the fault is of what statements say, and not of how they are spelled
abbrev pub IsOfSense : FaultKind → Type 0
IsOfSense kinds.Syntax = ⊥
IsOfSense kinds.UnknownType = ⊥
IsOfSense kinds.NameTwice = Unit {0}
IsOfSense kinds.SecondStruct = Unit {0}
IsOfSense kinds.TooWide = Unit {0}

-- a token decides a fault of how statements are spelled, and none decides one of what they say
abbrev pub SpellingFault : List ℕ → FaultKind → ℕ → Type 0
SpellingFault bytes kind place = TokenFault bytes kind place × ((other : FaultKind) (p : ℕ) → IsOfSense other → TokenFault bytes other p → ⊥)

-- why the input has this fault: its first bytes or its length show it, or it ends before that; or a token of
-- the text decides it; or the statements are good, and what they say gives no layout
abbrev pub FaultOf : List ℕ → HeaderFault → Type 0
FaultOf bytes faults.NoMagic = (extent bytes ≡ Faulty faults.NoMagic) ⊎ ((extent bytes ≡ Open) × (unended (length bytes) ≡ faults.NoMagic))
FaultOf bytes faults.TooLong = extent bytes ≡ Faulty faults.TooLong
FaultOf bytes faults.NoEnd = (extent bytes ≡ Open) × (unended (length bytes) ≡ faults.NoEnd)
FaultOf bytes (faults.Syntax place) = SpellingFault bytes kinds.Syntax place
FaultOf bytes (faults.UnknownType place) = SpellingFault bytes kinds.UnknownType place
FaultOf bytes (faults.NameTwice place) = TokenFault bytes kinds.NameTwice place
FaultOf bytes (faults.SecondStruct place) = TokenFault bytes kinds.SecondStruct place
FaultOf bytes (faults.TooWide place) = TokenFault bytes kinds.TooWide place
FaultOf bytes faults.NoStruct = SaysOf bytes (Err faults.NoStruct)
FaultOf bytes (faults.Missing name) = SaysOf bytes (Err (faults.Missing name))
FaultOf bytes (faults.NotWhole name) = SaysOf bytes (Err (faults.NotWhole name))
FaultOf bytes (faults.BadParameter name) = SaysOf bytes (Err (faults.BadParameter name))
FaultOf bytes (faults.TooMany n) = SaysOf bytes (Err (faults.TooMany n))

-- an input has this layout exactly where its text is a header of fitting statements that give it
abbrev pub LayoutOfStatements : List ℕ → Type 0
LayoutOfStatements bytes = (layout : LayoutValue) → (verdict bytes ≡ Ok layout) ↔ SaysOf bytes (Ok layout)

-- an input has this fault exactly where there is this reason for it
abbrev pub FaultByReason : List ℕ → Type 0
FaultByReason bytes = (f : HeaderFault) → (verdict bytes ≡ Err f) ↔ FaultOf bytes f
