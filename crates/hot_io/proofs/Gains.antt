-- What a sink gained.
use Rattle.std.proofs.Common.{ℕ, true, false, List, [], Option, Result, Ok, Err, refl, inl, inr, MatchResult}
use Rattle.std.proofs.KnownBytes.{Appends-nil}
use Rattle.hot_io.specs.Faults.{FailsExactly}
use Rattle.hot_io.specs.Writing.{Gain, Gained, IsWhole, IsCut, IsTried, IsNothing, Writes, Tells}

-- a writer's gain
pub tells_of : {E : Type 0} (old new : Option (List ℕ)) (before now : ℕ) (result : Result (Unit {0}) E) (text : List ℕ)
    → FailsExactly before now result → Writes old new result text → Tells old new before now result text
tells_of old new before now (Ok x) text cause writes =
    (record { bytes = text; failed = false }, record { grown = writes; kept = λ _. cause.ok; rose = λ e. cc }, record { bytes = refl; kept = refl })
tells_of old new before now (Err x) text cause writes =
    (record { bytes = writes.0; failed = true }, record { grown = writes.2; kept = λ e. cc; rose = λ _. cause.failed }, record { front = writes.1; rose = refl })

-- whatever came of it, the text was tried
pub tried_of : {E : Type 0} (text : List ℕ) (result : Result (Unit {0}) E) (gain : Gain) → MatchResult result (λ _. IsWhole text gain) (λ _. IsCut text gain) → IsTried text gain
tried_of text (Ok x) gain h = inl h
tried_of text (Err x) gain h = inr h

-- a sink that was not written
pub gain_none : (old : Option (List ℕ)) (before : ℕ) → (gain : Gain) × Gained old old before before gain × IsNothing gain
gain_none old before =
    (record { bytes = []; failed = false }, record { grown = Appends-nil old; kept = λ _. refl; rose = λ e. cc }, record { bytes = refl; kept = refl })
