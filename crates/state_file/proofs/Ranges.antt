-- The first velocity that is past 63 bits.
use Rattle.std.proofs.Common.{◌≡◌, ℕ, suc, ◌+◌, ◌<◌, ◌≤◌, List, [], ◌∷◌, ◌++◌, length, get_or, take, take_all, drop, drop-cons, Some, refl, sym, ◌∙◌, ap}
use Rattle.std.specs.Prelude.{All, flat_map, slice_get}
use Rattle.std.proofs.lemmas.List.{take_more, take-append-drop}
use Rattle.std.proofs.lemmas.Grind.{flat_map-append}
use Rattle.leap_frog.specs.Leap.{Moving, Leaver}
use Rattle.state_file.specs.Texts.{IsWritable}
use Rattle.state_file.specs.Commands.{past_63}
use Rattle.state_file.proofs.Undo.{all-writable}

-- those past 63 bits in two lists, joined
past-append : (s t : List Moving) → flat_map past_63 (s ++ t) ≡ flat_map past_63 s ++ flat_map past_63 t
past-append s t = flat_map-append past_63 s t

-- one more body is not past 63 bits
pub none-more : (s : List Moving) (i : ℕ) (m : Moving) → i < length s → m ≡ get_or s i m → flat_map past_63 (take i s) ≡ [] → past_63 m ≡ [] → flat_map past_63 (take (i + 1) s) ≡ []
none-more s i m lt at none here =
    let more : take (i + 1) s ≡ take i s ++ m ∷ [] = take_more s i m lt ∙ ap (λ (x : Moving). take i s ++ x ∷ []) (sym at) in
    ap (flat_map past_63) more ∙ (past-append (take i s) (m ∷ []) ∙ rw (none, here) refl)

-- the first of a list is that of a longer one
front-first : (ls rest : List Leaver) (l : Leaver) → slice_get ls 0 ≡ Some l → slice_get (ls ++ rest) 0 ≡ Some l
front-first [] rest l h = absurd cc
front-first (k ∷ ls) rest l h = h

-- the first body that is past 63 bits
pub first-here : (s : List Moving) (i : ℕ) (m : Moving) (l : Leaver) → i < length s → m ≡ get_or s i m → flat_map past_63 (take i s) ≡ [] → slice_get (past_63 m) 0 ≡ Some l → slice_get (flat_map past_63 s) 0 ≡ Some l
first-here s i m l lt at none here =
    let rest = drop (suc i) s in
    let parts : s ≡ take i s ++ m ∷ rest = sym (take-append-drop i s) ∙ ap (λ (x : List Moving). take i s ++ x) (drop-cons s i m lt ∙ ap (λ (x : Moving). x ∷ rest) (sym at)) in
    let all : flat_map past_63 s ≡ past_63 m ++ flat_map past_63 rest = ap (flat_map past_63) parts ∙ (past-append (take i s) (m ∷ rest) ∙ rw none refl) in
    ap (λ (x : List Leaver). slice_get x 0) all ∙ front-first (past_63 m) (flat_map past_63 rest) l here

-- at the end of the loop every velocity can be written
pub none-at-all : (s : List Moving) (i : ℕ) → length s ≤ i → flat_map past_63 (take i s) ≡ [] → All IsWritable s
none-at-all s i le none = all-writable s (ap (flat_map past_63) (sym (take_all i s le)) ∙ none)
