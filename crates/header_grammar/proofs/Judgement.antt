-- The verdict of an input, by its tokens and statements.
use Rattle.std.proofs.Common.{◌≡◌, ℕ, ◌-◌, ◌⊎◌, inl, inr, Bool, true, false, cond, List, take, length, Option, Some, None, Result, Ok, Err, pos, negsuc, refl, sym, ap, subst, ◌∙◌}
use Rattle.std.specs.Prelude.{nat_le, nat_lt, ◌&&◌, ◌==◌, if◌then◌else◌, codes}
use Rattle.sdf_header.specs.declared.header_fault.HeaderFault.{HeaderFault}
use Rattle.sdf_header.specs.declared.header_fault.HeaderFault.TheVariants as faults
use Rattle.sdf_header.specs.declared.header_fault.ColName.{ColName}
use Rattle.sdf_header.specs.declared.header_fault.ColName.TheVariants as columns
use Rattle.sdf_header.specs.declared.header_fault.ParamName.{ParamName}
use Rattle.sdf_header.specs.declared.header_fault.ParamName.TheVariants as names
use Rattle.sdf_tokens.specs.declared.fault.Fault.{Fault}
use Rattle.sdf_tokens.specs.declared.fault.FaultKind.{FaultKind}
use Rattle.sdf_tokens.specs.declared.fault.FaultKind.TheVariants as kinds
use Rattle.sdf_header.specs.declared.kind.Kind.{Kind}
use Rattle.sdf_header.specs.declared.document.Value.{Value}
use Rattle.sdf_header.specs.declared.document.Value.TheVariants as values
use Rattle.sdf_header.specs.declared.layout.Col.{Col}
use Rattle.hot_units.specs.Limits.{max_header_bytes}
use Rattle.sdf_header.specs.Layouts.{LayoutValue}
use Rattle.sdf_header.specs.Parts.{Names}
use Rattle.sdf_header.specs.Fields.{Field}
use Rattle.sdf_header.specs.Statements.{Header, header_in}
use Rattle.header_grammar.specs.Faults.{FaultAt}
use Rattle.sdf_header.specs.Extent.{Extent, Faulty, Ends, Open, extent, extent_from, agrees, magic, ending}
use Rattle.sdf_header.specs.Verdict.{◌>>=◌, or_fault, column, whole, axes_of, optional_of, order_of, whole_param, small_param, cube_of, mass_of, count_of, layout_of, placed, at_place, judged, unended, verdict_from, verdict}
use Rattle.header_grammar.specs.Judgement.{SaysOf, TokenFault, IsOfSense, SpellingFault, FaultOf, LayoutOfStatements, FaultByReason}
use Rattle.header_grammar.proofs.Faults.{is_header, header_is}
use Rattle.header_grammar.specs.TokenList.{tokens}
use Rattle.header_grammar.proofs.Machine.{Halt, halt, State}
use Rattle.header_grammar.proofs.Simulation.{onward, done, header_goes}
use Rattle.header_grammar.proofs.Converse.{sense_halts}
use Rattle.header_grammar.proofs.Decided.{fault_at}
use Rattle.header_grammar.proofs.Unique.{one_fault, fault_stops, header_has_none}

-- ---- faults of what statements say are no faults of the text

abbrev IsLater : HeaderFault → Type 0
IsLater faults.NoMagic = ⊥
IsLater faults.TooLong = ⊥
IsLater faults.NoEnd = ⊥
IsLater (faults.Syntax place) = ⊥
IsLater (faults.UnknownType place) = ⊥
IsLater (faults.NameTwice place) = ⊥
IsLater (faults.SecondStruct place) = ⊥
IsLater (faults.TooWide place) = ⊥
IsLater faults.NoStruct = Unit {0}
IsLater (faults.Missing name) = Unit {0}
IsLater (faults.NotWhole name) = Unit {0}
IsLater (faults.BadParameter name) = Unit {0}
IsLater (faults.TooMany n) = Unit {0}

abbrev FailsLater : {A : Type 0} → Result A HeaderFault → Type 0
FailsLater (Ok x) = Unit {0}
FailsLater (Err f) = IsLater f

later : {A B : Type 0} (m : Result A HeaderFault) (k : A → Result B HeaderFault) → FailsLater m → ((a : A) → FailsLater (k a)) → FailsLater (m >>= k)
later (Ok a) k l h = h a
later (Err f) k l h = l

or_fault_later : {A : Type 0} (f : HeaderFault) (o : Option A) → IsLater f → FailsLater (or_fault f o)
or_fault_later f None l = l
or_fault_later f (Some a) l = tt

chosen_later : {A : Type 0} (b : Bool) (x y : Result A HeaderFault) → FailsLater x → FailsLater y → FailsLater (if b then x else y)
chosen_later true x y l k = l
chosen_later false x y l k = k

axes_later : (fields : List Field) → FailsLater (axes_of fields)
unfolding axes_of
axes_later fields =
    later (or_fault (faults.Missing columns.X) (column (codes "x") fields)) _ (or_fault_later _ _ tt) (λ x.
    later (or_fault (faults.Missing columns.Y) (column (codes "y") fields)) _ (or_fault_later _ _ tt) (λ y.
    later (or_fault (faults.Missing columns.Z) (column (codes "z") fields)) _ (or_fault_later _ _ tt) (λ z.
    later (or_fault (faults.NotWhole columns.X) (whole x.0 x.1)) _ (or_fault_later _ _ tt) (λ a.
    later (or_fault (faults.NotWhole columns.Y) (whole y.0 y.1)) _ (or_fault_later _ _ tt) (λ b.
    later (or_fault (faults.NotWhole columns.Z) (whole z.0 z.1)) _ (or_fault_later _ _ tt) (λ c. tt))))))

optional_later : (name : ColName) (o : Option (Kind × ℕ)) → FailsLater (optional_of name o)
unfolding optional_of
optional_later name None = tt
optional_later name (Some c) = later (or_fault (faults.NotWhole name) (whole c.0 c.1)) _ (or_fault_later _ _ tt) (λ col. tt)

order_later : (v : Option Value) → FailsLater (order_of v)
unfolding order_of
order_later None = tt
order_later (Some values.Other) = tt
order_later (Some (values.Whole (negsuc n))) = tt
order_later (Some (values.Whole (pos n))) = chosen_later (n == 0x78563412) _ _ tt (chosen_later (n == 0x12345678) _ _ tt tt)

param_later : (name : ParamName) (v : Option Value) → FailsLater (whole_param name v)
unfolding whole_param
param_later name None = tt
param_later name (Some values.Other) = tt
param_later name (Some (values.Whole v)) = tt

small_later : (name : ParamName) (limit default : ℕ) (v : Option Value) → FailsLater (small_param name limit default v)
unfolding small_param
small_later name limit default None = tt
small_later name limit default (Some values.Other) = tt
small_later name limit default (Some (values.Whole (negsuc n))) = tt
small_later name limit default (Some (values.Whole (pos n))) = chosen_later (nat_le 1 n && nat_le n limit) _ _ tt tt

cube_later : (given : Names) → FailsLater (cube_of given)
unfolding cube_of
cube_later given =
    later _ _ (small_later names.CubeBits _ _ (given (codes "cube_bits"))) (λ bits.
    later _ _ (param_later names.CubeX0 (given (codes "cube_x0"))) (λ x.
    later _ _ (param_later names.CubeY0 (given (codes "cube_y0"))) (λ y.
    later _ _ (param_later names.CubeZ0 (given (codes "cube_z0"))) (λ z. tt))))

mass_later : (c : Option Col) (v : Option Value) → FailsLater (mass_of c v)
unfolding mass_of
mass_later (Some c) v = tt
mass_later None v = small_later names.Mass _ _ v

count_later : (n : Option ℕ) → FailsLater (count_of n)
unfolding count_of
count_later None = tt
count_later (Some n) = chosen_later (nat_lt _ n) _ _ tt tt

layout_later : (len : ℕ) (h : Header) → FailsLater (layout_of len h)
unfolding layout_of
layout_later len h =
    later (or_fault faults.NoStruct h.table) _ (or_fault_later _ h.table tt) (λ t.
    later _ _ (axes_later t.row.fields) (λ axes.
    later _ _ (optional_later columns.Mass (column (codes "mass") t.row.fields)) (λ mass.
    later _ _ (optional_later columns.Ident (column (codes "ident") t.row.fields)) (λ ident.
    later _ _ (optional_later columns.Work (column (codes "work") t.row.fields)) (λ work.
    later _ _ (order_later (h.given (codes "byteorder"))) (λ order.
    later _ _ (cube_later h.given) (λ cube.
    later _ _ (mass_later mass (h.given (codes "mass"))) (λ m.
    later _ _ (count_later t.size) (λ n. tt)))))))))

-- ---- the verdict

err_ok : {A B : Type 0} (f : HeaderFault) (x : A) → ◌≡◌ {A = Result A HeaderFault} (Err f) (Ok x) → B
err_ok f x e = absurd cc

err_is : {A : Type 0} (f g : HeaderFault) → ◌≡◌ {A = Result A HeaderFault} (Err f) (Err g) → f ≡ g
err_is f g e = cc

layout_says : (bytes : List ℕ) (text len : ℕ) (layout : LayoutValue) → extent bytes ≡ Ends text len → (r : Result Header Fault) → header_in (take text bytes) ≡ r → (placed (length (take text bytes)) r >>= layout_of len) ≡ Ok layout → SaysOf bytes (Ok layout)
layout_says bytes text len layout ends (Ok h) is e = record { text = text; len = len; header = h; ends = ends; is = is_header (take text bytes) h is; gives = e }
layout_says bytes text len layout ends (Err f) is e = err_ok _ layout e

layout_from : (bytes : List ℕ) (layout : LayoutValue) (x : Extent) → extent bytes ≡ x → verdict_from bytes x ≡ Ok layout → SaysOf bytes (Ok layout)
unfolding judged
layout_from bytes layout (Faulty f) ends e = err_ok f layout e
layout_from bytes layout Open ends e = err_ok (unended (length bytes)) layout e
layout_from bytes layout (Ends text len) ends e = layout_says bytes text len layout ends (header_in (take text bytes)) refl e

says_layout : (bytes : List ℕ) (given : Result LayoutValue HeaderFault) → SaysOf bytes given → verdict bytes ≡ given
unfolding verdict judged
says_layout bytes given s =
    ap (verdict_from bytes) s.ends ∙ ap (λ r. placed (length (take s.text bytes)) r >>= layout_of s.len) (header_is (take s.text bytes) s.header s.is) ∙ s.gives

-- a layout comes exactly where statements give it
pub layouts : (bytes : List ℕ) → LayoutOfStatements bytes
unfolding verdict
layouts bytes layout = (λ e. layout_from bytes layout (extent bytes) refl e, λ s. says_layout bytes (Ok layout) s)

ok_halt : {B : Type 0} (h : Header) (k : FaultKind) (p : ℕ) → done h ≡ halt k p → B
ok_halt h k p e = absurd cc

halt_is : (a b : Halt) → ◌≡◌ {A = Result State Halt} (Err a) (Err b) → a ≡ b
halt_is a b e = cc

abbrev refused : Halt → Result Header HeaderFault
refused x = Err (at_place x.kind x.place)

halted_is : (z : ℕ) (r : Result Header Fault) (k : FaultKind) (p : ℕ) → onward z done r ≡ halt k p → placed z r ≡ Err (at_place k p)
halted_is z (Ok h) k p e = ok_halt h k p e
halted_is z (Err f) k p e = ap refused (halt_is (record { kind = f.kind; place = z - f.left }) (record { kind = k; place = p }) e)

-- a token that decides a fault of what statements say is the verdict
senses : (bytes : List ℕ) (kind : FaultKind) (place : ℕ) → IsOfSense kind → TokenFault bytes kind place → verdict bytes ≡ Err (at_place kind place)
unfolding verdict judged
senses bytes kind place sense t =
    let text = take t.text bytes in
    let f = t.fault in
    ap (verdict_from bytes) t.ends ∙ ap (λ r. r >>= layout_of t.len) (halted_is (length text) (header_in text) kind place (sym (header_goes (length text) text) ∙ sense_halts (tokens text) f.before f.token f.after kind f.is sense f.decides ∙ ap (λ p. halt kind p) f.stands))

no_syntax : (other : FaultKind) (q p : ℕ) → IsOfSense other → faults.Syntax q ≡ at_place other p → ⊥
no_syntax kinds.Syntax q p sense e = sense
no_syntax kinds.UnknownType q p sense e = sense
no_syntax kinds.NameTwice q p sense e = absurd cc
no_syntax kinds.SecondStruct q p sense e = absurd cc
no_syntax kinds.TooWide q p sense e = absurd cc

no_type : (other : FaultKind) (q p : ℕ) → IsOfSense other → faults.UnknownType q ≡ at_place other p → ⊥
no_type kinds.Syntax q p sense e = sense
no_type kinds.UnknownType q p sense e = sense
no_type kinds.NameTwice q p sense e = absurd cc
no_type kinds.SecondStruct q p sense e = absurd cc
no_type kinds.TooWide q p sense e = absurd cc

text_fault : (bytes : List ℕ) (text len : ℕ) (kind : FaultKind) (left : ℕ) (f : HeaderFault) → extent bytes ≡ Ends text len → FaultAt (take text bytes) kind (length (take text bytes) - left) → at_place kind (length (take text bytes) - left) ≡ f → verdict bytes ≡ Err f → FaultOf bytes f
text_fault bytes text len kinds.Syntax left f ends at is v = subst (FaultOf bytes) is (record { text = text; len = len; ends = ends; fault = at }, λ other p sense t. no_syntax other (length (take text bytes) - left) p sense (is ∙ err_is _ _ (sym v ∙ senses bytes other p sense t)))
text_fault bytes text len kinds.UnknownType left f ends at is v = subst (FaultOf bytes) is (record { text = text; len = len; ends = ends; fault = at }, λ other p sense t. no_type other (length (take text bytes) - left) p sense (is ∙ err_is _ _ (sym v ∙ senses bytes other p sense t)))
text_fault bytes text len kinds.NameTwice left f ends at is v = subst (FaultOf bytes) is (record { text = text; len = len; ends = ends; fault = at })
text_fault bytes text len kinds.SecondStruct left f ends at is v = subst (FaultOf bytes) is (record { text = text; len = len; ends = ends; fault = at })
text_fault bytes text len kinds.TooWide left f ends at is v = subst (FaultOf bytes) is (record { text = text; len = len; ends = ends; fault = at })

later_fault : (bytes : List ℕ) (f : HeaderFault) → IsLater f → SaysOf bytes (Err f) → FaultOf bytes f
later_fault bytes faults.NoMagic l s = absurd l
later_fault bytes faults.TooLong l s = absurd l
later_fault bytes faults.NoEnd l s = absurd l
later_fault bytes (faults.Syntax place) l s = absurd l
later_fault bytes (faults.UnknownType place) l s = absurd l
later_fault bytes (faults.NameTwice place) l s = absurd l
later_fault bytes (faults.SecondStruct place) l s = absurd l
later_fault bytes (faults.TooWide place) l s = absurd l
later_fault bytes faults.NoStruct l s = s
later_fault bytes (faults.Missing name) l s = s
later_fault bytes (faults.NotWhole name) l s = s
later_fault bytes (faults.BadParameter name) l s = s
later_fault bytes (faults.TooMany n) l s = s

fault_says : (bytes : List ℕ) (text len : ℕ) (f : HeaderFault) → extent bytes ≡ Ends text len → (r : Result Header Fault) → header_in (take text bytes) ≡ r → (placed (length (take text bytes)) r >>= layout_of len) ≡ Err f → verdict bytes ≡ Err f → FaultOf bytes f
fault_says bytes text len f ends (Ok h) is e v = later_fault bytes f (subst FailsLater e (layout_later len h)) (record { text = text; len = len; header = h; ends = ends; is = is_header (take text bytes) h is; gives = e })
fault_says bytes text len f ends (Err g) is e v = text_fault bytes text len g.kind g.left f ends (fault_at (take text bytes) g is) (err_is _ f e) v

-- an extent shows the first two faults alone
abbrev ShowsFirst : Extent → Type 0
ShowsFirst (Faulty faults.NoMagic) = Unit {0}
ShowsFirst (Faulty faults.TooLong) = Unit {0}
ShowsFirst (Faulty faults.NoEnd) = ⊥
ShowsFirst (Faulty (faults.Syntax place)) = ⊥
ShowsFirst (Faulty (faults.UnknownType place)) = ⊥
ShowsFirst (Faulty (faults.NameTwice place)) = ⊥
ShowsFirst (Faulty (faults.SecondStruct place)) = ⊥
ShowsFirst (Faulty (faults.TooWide place)) = ⊥
ShowsFirst (Faulty faults.NoStruct) = ⊥
ShowsFirst (Faulty (faults.Missing name)) = ⊥
ShowsFirst (Faulty (faults.NotWhole name)) = ⊥
ShowsFirst (Faulty (faults.BadParameter name)) = ⊥
ShowsFirst (Faulty (faults.TooMany n)) = ⊥
ShowsFirst (Ends text len) = Unit {0}
ShowsFirst Open = Unit {0}

chosen_first : (b : Bool) (x y : Extent) → ShowsFirst x → ShowsFirst y → ShowsFirst (if b then x else y)
chosen_first true x y l k = l
chosen_first false x y l k = k

from_first : (n : ℕ) (o : Option (ℕ × ℕ)) → ShowsFirst (extent_from n o)
from_first n None = chosen_first (nat_le max_header_bytes n) (Faulty faults.TooLong) Open tt tt
from_first n (Some e) = chosen_first (nat_le e.1 max_header_bytes) (Ends e.0 e.1) (Faulty faults.TooLong) tt tt

extent_first : (bytes : List ℕ) → ShowsFirst (extent bytes)
unfolding extent
extent_first bytes = chosen_first (agrees magic bytes) (extent_from (length bytes) (ending bytes)) (Faulty faults.NoMagic) (from_first (length bytes) (ending bytes)) tt

first_fault : (bytes : List ℕ) (f : HeaderFault) → ShowsFirst (Faulty f) → extent bytes ≡ Faulty f → FaultOf bytes f
first_fault bytes faults.NoMagic l e = inl e
first_fault bytes faults.TooLong l e = e
first_fault bytes faults.NoEnd l e = absurd l
first_fault bytes (faults.Syntax place) l e = absurd l
first_fault bytes (faults.UnknownType place) l e = absurd l
first_fault bytes (faults.NameTwice place) l e = absurd l
first_fault bytes (faults.SecondStruct place) l e = absurd l
first_fault bytes (faults.TooWide place) l e = absurd l
first_fault bytes faults.NoStruct l e = absurd l
first_fault bytes (faults.Missing name) l e = absurd l
first_fault bytes (faults.NotWhole name) l e = absurd l
first_fault bytes (faults.BadParameter name) l e = absurd l
first_fault bytes (faults.TooMany n) l e = absurd l

open_fault : (bytes : List ℕ) (b : Bool) (f : HeaderFault) → unended (length bytes) ≡ cond b faults.NoMagic faults.NoEnd → extent bytes ≡ Open → unended (length bytes) ≡ f → FaultOf bytes f
open_fault bytes true f is ends e = subst (FaultOf bytes) (sym is ∙ e) (inr (ends, is))
open_fault bytes false f is ends e = subst (FaultOf bytes) (sym is ∙ e) (ends, is)

fault_from : (bytes : List ℕ) (f : HeaderFault) (x : Extent) → extent bytes ≡ x → verdict_from bytes x ≡ Err f → verdict bytes ≡ Err f → FaultOf bytes f
unfolding judged
fault_from bytes f (Faulty g) ends e v =
    (let same = err_is g f e in
    let shows : ShowsFirst (Faulty g) = subst ShowsFirst ends (extent_first bytes) in
    subst (FaultOf bytes) same (first_fault bytes g shows ends))
fault_from bytes f Open ends e v = open_fault bytes (nat_lt (length bytes) 5) f refl ends (err_is (unended (length bytes)) f e)
fault_from bytes f (Ends text len) ends e v = fault_says bytes text len f ends (header_in (take text bytes)) refl e v

-- ---- a reason is enough

sense_or : (k : FaultKind) → IsOfSense k ⊎ (IsOfSense k → ⊥)
sense_or kinds.Syntax = inr (λ x. x)
sense_or kinds.UnknownType = inr (λ x. x)
sense_or kinds.NameTwice = inl tt
sense_or kinds.SecondStruct = inl tt
sense_or kinds.TooWide = inl tt

spells_wrong : (bytes : List ℕ) (text len : ℕ) (kind : FaultKind) (place : ℕ) → extent bytes ≡ Ends text len → (IsOfSense kind → ⊥) → FaultAt (take text bytes) kind place → ((other : FaultKind) (p : ℕ) → IsOfSense other → TokenFault bytes other p → ⊥)
    → (r : Result Header Fault) → header_in (take text bytes) ≡ r → placed (length (take text bytes)) r ≡ Err (at_place kind place)
spells_wrong bytes text len kind place ends bad at none (Ok h) e = absurd (header_has_none (take text bytes) h (is_header (take text bytes) h e) (fault_stops (take text bytes) kind place bad at).stop)
spells_wrong bytes text len kind place ends bad at none (Err f) e =
    (let mine = fault_at (take text bytes) f e in
    elim (sense_or f.kind) [
      | inl sense ↦ absurd (none f.kind (length (take text bytes) - f.left) sense (record { text = text; len = len; ends = ends; fault = mine }))
      | inr not_sense ↦
          (let same = one_fault (tokens (take text bytes)) f.kind kind (length (take text bytes) - f.left) place (fault_stops (take text bytes) f.kind (length (take text bytes) - f.left) not_sense mine) (fault_stops (take text bytes) kind place bad at) in
          ap (λ k. refused (record { kind = k; place = length (take text bytes) - f.left })) same.0 ∙ ap (λ p. refused (record { kind = kind; place = p })) same.1)
    ])

spelling_verdict : (bytes : List ℕ) (kind : FaultKind) (place : ℕ) → (IsOfSense kind → ⊥) → SpellingFault bytes kind place → verdict bytes ≡ Err (at_place kind place)
unfolding verdict judged
spelling_verdict bytes kind place bad s =
    let t = s.0 in
    ap (verdict_from bytes) t.ends ∙ ap (λ r. r >>= layout_of t.len) (spells_wrong bytes t.text t.len kind place t.ends bad t.fault s.1 (header_in (take t.text bytes)) refl)

abbrev fails : HeaderFault → Result LayoutValue HeaderFault
fails f = Err f

with_reason : (bytes : List ℕ) (f : HeaderFault) → FaultOf bytes f → verdict bytes ≡ Err f
unfolding verdict
with_reason bytes faults.NoMagic (inl e) = ap (verdict_from bytes) e
with_reason bytes faults.NoMagic (inr e) = ap (verdict_from bytes) e.0 ∙ ap fails e.1
with_reason bytes faults.TooLong e = ap (verdict_from bytes) e
with_reason bytes faults.NoEnd e = ap (verdict_from bytes) e.0 ∙ ap fails e.1
with_reason bytes (faults.Syntax place) s = spelling_verdict bytes kinds.Syntax place (λ x. x) s
with_reason bytes (faults.UnknownType place) s = spelling_verdict bytes kinds.UnknownType place (λ x. x) s
with_reason bytes (faults.NameTwice place) t = senses bytes kinds.NameTwice place tt t
with_reason bytes (faults.SecondStruct place) t = senses bytes kinds.SecondStruct place tt t
with_reason bytes (faults.TooWide place) t = senses bytes kinds.TooWide place tt t
with_reason bytes faults.NoStruct s = says_layout bytes (Err faults.NoStruct) s
with_reason bytes (faults.Missing name) s = says_layout bytes (Err (faults.Missing name)) s
with_reason bytes (faults.NotWhole name) s = says_layout bytes (Err (faults.NotWhole name)) s
with_reason bytes (faults.BadParameter name) s = says_layout bytes (Err (faults.BadParameter name)) s
with_reason bytes (faults.TooMany n) s = says_layout bytes (Err (faults.TooMany n)) s

-- each fault comes exactly where there is its reason
pub reasons : (bytes : List ℕ) → FaultByReason bytes
unfolding verdict
reasons bytes f = (λ e. fault_from bytes f (extent bytes) refl e e, λ s. with_reason bytes f s)
