-- A token that decides a fault of what statements say ends the run.
use Rattle.std.proofs.Common.{◌≡◌, ℕ, suc, ◌+◌, ◌*◌, ◌≤◌, Bool, true, false, ◌⊎◌, inl, inr, List, [], ◌∷◌, ◌++◌, length, Option, Some, None, Result, pos, refl, sym, ap, subst, ◌∙◌, arith}
use Rattle.std.specs.Prelude.{if◌then◌else◌, is_some, codes, nat_lt, ◌==◌}
use Rattle.std.proofs.lemmas.Bool.{cases_Bool, le-leb}
use Rattle.std.proofs.lemmas.List.{length-append}
use Rattle.hot_units.specs.Limits.{max_columns, max_row_bytes}
use Rattle.sdf_tokens.specs.declared.fault.FaultKind.{FaultKind}
use Rattle.sdf_tokens.specs.declared.fault.FaultKind.TheVariants as faults
use Rattle.sdf_header.specs.declared.kind.Kind.{Kind}
use Rattle.sdf_header.specs.Limits.{max_array_length}
use Rattle.sdf_tokens.specs.Tokens.{Lexeme, Number}
use Rattle.header_grammar.specs.TokenList.{Token}
use Rattle.sdf_header.specs.Types.{bytes_of}
use Rattle.sdf_header.specs.Fields.{Row, has_field, length_of, no_fields}
use Rattle.sdf_header.specs.Statements.{Header, nothing_given}
use Rattle.header_grammar.specs.Grammar.{Spelling, spelling, word, sign, count, TypeName, IsType, Item, FieldLine, Statement, Parameter, Constant, Label, Struct, AllFit, spell_type, spell_size, spell_length, spell_item, spell_earlier, spell_line, spell_lines, spell, spell_each, and_lines, ItemsFit, LinesFit, said}
use Rattle.header_grammar.specs.Faults.{StandsBehind, NameGiven, ColumnStands, HasValues, Plain, Array, IsTooWide, Decides}
use Rattle.header_grammar.specs.Judgement.{IsOfSense}
use Rattle.header_grammar.proofs.Machine.{Halt, halt, State, Start, Wants, ParamName, ParamValue, Unsigned, Typed, Named, Fields, FieldUnsigned, Item as AtItem, ItemName, wanted, has, word_in, on_name, on_item, step, and_then, goes}
use Rattle.header_grammar.proofs.Leads.{GoesOn, one, on, lead_type, lead_lines, lead_earlier, lead_each, since_fits}
use Rattle.header_grammar.proofs.Sits.{sign_is}
use Rattle.header_grammar.proofs.Faults.{spelling-append}

-- ---- what follows a spelling

type-append : (t : TypeName) (a b : Spelling) → spell_type t a ++ b ≡ spell_type t (a ++ b)
type-append t a b = go t.unsigned
  where
    go : (u : Bool) → (if u then word (codes "unsigned") ∷ word t.word ∷ a else word t.word ∷ a) ++ b ≡ (if u then word (codes "unsigned") ∷ word t.word ∷ (a ++ b) else word t.word ∷ (a ++ b))
    go true = refl
    go false = refl

size-append : (n : Option ℕ) (a b : Spelling) → spell_size n a ++ b ≡ spell_size n (a ++ b)
size-append None a b = refl
size-append (Some n) a b = refl

length-then : (n : Option ℕ) (a b : Spelling) → spell_length n a ++ b ≡ spell_length n (a ++ b)
length-then None a b = refl
length-then (Some n) a b = refl

item-append : (i : Item) (a b : Spelling) → spell_item i a ++ b ≡ spell_item i (a ++ b)
item-append i a b = ap (λ x. word i.name ∷ x) (length-then i.length a b)

earlier-append : (items : List Item) (a b : Spelling) → spell_earlier items a ++ b ≡ spell_earlier items (a ++ b)
earlier-append [] a b = refl
earlier-append (i ∷ items) a b = item-append i (sign 44 ∷ spell_earlier items a) b ∙ ap (λ x. spell_item i (sign 44 ∷ x)) (earlier-append items a b)

line-append : (l : FieldLine) (a b : Spelling) → spell_line l a ++ b ≡ spell_line l (a ++ b)
line-append l a b =
    type-append l.type (spell_earlier l.earlier (spell_item l.last (sign 59 ∷ a))) b
    ∙ ap (spell_type l.type) (earlier-append l.earlier (spell_item l.last (sign 59 ∷ a)) b ∙ ap (spell_earlier l.earlier) (item-append l.last (sign 59 ∷ a) b))

lines-append : (ls : List FieldLine) (a b : Spelling) → spell_lines ls a ++ b ≡ spell_lines ls (a ++ b)
lines-append [] a b = refl
lines-append (l ∷ ls) a b = line-append l (spell_lines ls a) b ∙ ap (spell_line l) (lines-append ls a b)

statement-append : (s : Statement) (a b : Spelling) → spell s a ++ b ≡ spell s (a ++ b)
statement-append (Parameter name token value) a b = refl
statement-append (Constant type name token value) a b = type-append type _ b
statement-append (Label type name size) a b = type-append type _ b ∙ ap (λ x. spell_type type (word name ∷ sign 91 ∷ x)) (size-append size _ b)
statement-append (Struct lines size) a b = ap (λ x. word (codes "struct") ∷ sign 123 ∷ x) (lines-append lines _ b ∙ ap (λ x. spell_lines lines (sign 125 ∷ sign 91 ∷ x)) (size-append size _ b))

each-append : (ss : List Statement) (a b : Spelling) → spell_each ss a ++ b ≡ spell_each ss (a ++ b)
each-append [] a b = refl
each-append (s ∷ ss) a b = statement-append s (spell_each ss a) b ∙ ap (spell s) (each-append ss a b)

-- ---- the token that decides

tail_is : (t u : Token) (a b : List Token) → t ∷ a ≡ u ∷ b → a ≡ b
tail_is t u a b e = cc

-- of two equal lists, ends of equal length are equal
pub same_end : (a b c d : List Token) → a ++ b ≡ c ++ d → length b ≡ length d → b ≡ d
same_end [] b [] d e n = e
same_end [] b (t ∷ c) d e n = absurd (omega (arith, ap length e, length-append c d, n))
same_end (t ∷ a) b [] d e n = absurd (omega (arith, ap length e, length-append a b, n))
same_end (t ∷ a) b (u ∷ c) d e n = same_end a b c d (tail_is t u (a ++ b) (c ++ d) e) n

-- a spelling has one part for each token
pub spelling_length : (ts : List Token) → length (spelling ts) ≡ length ts
spelling_length [] = refl
spelling_length (t ∷ ts) = ap (λ n. suc n) (spelling_length ts)

-- the run comes to the token, and halts there
halts_now : (all before : List Token) (t : Token) (after : List Token) (s : State) (r : Result State Halt) → all ≡ before ++ t ∷ after → GoesOn (Start nothing_given) all s (t.lexeme ∷ spelling after) → and_then (step s t) (λ s. goes s after) ≡ r → goes (Start nothing_given) all ≡ r
unfolding goes
halts_now all before t after s r is g e =
    let n : length g.tokens ≡ length (t ∷ after) = sym (spelling_length g.tokens) ∙ ap length g.are ∙ ap (λ n. suc n) (spelling_length after) in
    let same : g.tokens ≡ t ∷ after = same_end g.used g.tokens before (t ∷ after) (sym g.split ∙ is) n in
    g.same ∙ ap (goes s) same ∙ e

-- the run comes to what stands behind the statements
comes : (all before : List Token) (t : Token) (after : List Token) (ss : List Statement) (part : Spelling) → all ≡ before ++ t ∷ after → StandsBehind (spelling before) ss part → GoesOn (Start nothing_given) all (Start (said ss)) (part ++ t.lexeme ∷ spelling after)
comes all before t after ss part is b =
    since_fits (Start nothing_given) (Start (said ss)) all _ (AllFit nothing_given ss)
    (lead_each nothing_given ss all (part ++ t.lexeme ∷ spelling after) b.are (ap spelling is ∙ spelling-append before (t ∷ after) ∙ ap (λ x. x ++ t.lexeme ∷ spelling after) b.spelled ∙ each-append ss part (t.lexeme ∷ spelling after)))
    b.fit

start_type : (h : Header) (t : TypeName) (ts : List Token) (rest : Spelling) → IsType t → spelling ts ≡ spell_type t rest → GoesOn (Start h) ts (Typed h t.kind) rest
start_type h t ts rest is e = lead_type (Start h) (Typed h) (Unsigned h) t ts rest (λ w p s place. rw (p, s) refl) (λ place t. refl) is e

twice : (t : Token) (h : Header) (named : List ℕ → State) (name : List ℕ) (after : List Token) → t.lexeme ≡ word name → is_some (h.given name) ≡ true → and_then (wanted t.place (word_in t.lexeme) (on_name h t.place named)) (λ s. goes s after) ≡ halt faults.NameTwice t.place
twice t h named name after x g = ap (λ y. and_then (wanted t.place (word_in y) (on_name h t.place named)) (λ s. goes s after)) x ∙ rw g refl

name_halts : (all before : List Token) (t : Token) (after : List Token) (name : List ℕ) → all ≡ before ++ t ∷ after → t.lexeme ≡ word name → NameGiven (spelling before) name → goes (Start nothing_given) all ≡ halt faults.NameTwice t.place
name_halts all before t after name is x n =
    let h = said n.statements in
    let g = comes all before t after n.statements n.part is n.behind in
    elim n.lead [
      | inl p ↦ halts_now all before t after (ParamName h) _ is
          (on (Start nothing_given) (Start h) (ParamName h) all (n.part ++ t.lexeme ∷ spelling after) (t.lexeme ∷ spelling after) g (λ ts e. one (Start h) (ParamName h) ts (word (codes "parameter")) _ (e ∙ ap (λ y. y ++ t.lexeme ∷ spelling after) p) (λ place. refl)))
          (twice t h (λ w. Wants 61 (ParamValue h w)) name after x n.given)
      | inr p ↦ halts_now all before t after (Typed h p.0.kind) _ is
          (on (Start nothing_given) (Start h) (Typed h p.0.kind) all (n.part ++ t.lexeme ∷ spelling after) (t.lexeme ∷ spelling after) g (λ ts e. start_type h p.0 ts _ p.1 (e ∙ ap (λ y. y ++ t.lexeme ∷ spelling after) p.2 ∙ type-append p.0 [] (t.lexeme ∷ spelling after))))
          (twice t h (λ w. Named h p.0.kind w) name after x n.given)
    ]

-- the run comes to the name of a column
column_comes : (all before : List Token) (t : Token) (after : List Token) (type : TypeName) (row : Row) → all ≡ before ++ t ∷ after → (c : ColumnStands (spelling before) type row) → GoesOn (Start nothing_given) all (AtItem (said c.statements) row type.kind) (t.lexeme ∷ spelling after)
column_comes all before t after type row is c =
    let h = said c.statements in
    let rest = t.lexeme ∷ spelling after in
    let items = spell_earlier c.earlier rest in
    let lines = spell_lines c.lines (spell_type type items) in
    let inside = and_lines no_fields c.lines in
    let later = AtItem h row type.kind in
    let spelled : (word (codes "struct") ∷ sign 123 ∷ spell_lines c.lines (spell_type type (spell_earlier c.earlier []))) ++ rest ≡ word (codes "struct") ∷ sign 123 ∷ lines =
    ap (λ x. word (codes "struct") ∷ sign 123 ∷ x) (lines-append c.lines (spell_type type (spell_earlier c.earlier [])) rest ∙ ap (spell_lines c.lines) (type-append type (spell_earlier c.earlier []) rest ∙ ap (spell_type type) (earlier-append c.earlier [] rest))) in
    on (Start nothing_given) (Start h) later all _ rest (comes all before t after c.statements _ is c.behind) (λ ts e.
    on (Start h) (Wants 123 (Fields h no_fields)) later ts (sign 123 ∷ lines) rest (one (Start h) (Wants 123 (Fields h no_fields)) ts (word (codes "struct")) _ (e ∙ spelled) (λ place. rw c.first refl)) (λ ts e.
    on (Wants 123 (Fields h no_fields)) (Fields h no_fields) later ts lines rest (one (Wants 123 (Fields h no_fields)) (Fields h no_fields) ts (sign 123) _ e (λ place. refl)) (λ ts e.
    on (Fields h no_fields) (Fields h inside) later ts (spell_type type items) rest (since_fits _ _ ts _ (LinesFit no_fields c.lines) (lead_lines h no_fields c.lines ts (spell_type type items) c.lines_are e) c.lines_fit) (λ ts e.
    on (Fields h inside) (AtItem h inside type.kind) later ts items rest (lead_type (Fields h inside) (AtItem h inside) (FieldUnsigned h inside) type ts items (λ w p s place. refl) (λ place t. refl) c.is e) (λ ts e.
    subst (λ r. GoesOn (AtItem h inside type.kind) ts (AtItem h r type.kind) rest) c.row_is (since_fits _ _ ts _ (ItemsFit type.kind inside c.earlier) (lead_earlier h inside type.kind c.earlier ts rest c.items_are e) c.items_fit))))))

item_step : (h : Header) (row : Row) (kind : Kind) (t : Token) (name : List ℕ) → t.lexeme ≡ word name → step (AtItem h row kind) t ≡ on_item h row kind t.place name
item_step h row kind t name x = ap (λ y. wanted t.place (word_in y) (on_item h row kind t.place)) x

column_twice : (all before : List Token) (t : Token) (after : List Token) (name : List ℕ) (type : TypeName) (row : Row) → all ≡ before ++ t ∷ after → t.lexeme ≡ word name → ColumnStands (spelling before) type row → has_field name row.fields ≡ true → goes (Start nothing_given) all ≡ halt faults.NameTwice t.place
column_twice all before t after name type row is x c has_it =
    halts_now all before t after (AtItem (said c.statements) row type.kind) _ is (column_comes all before t after type row is c)
    (ap (λ r. and_then r (λ s. goes s after)) (item_step (said c.statements) row type.kind t name x) ∙ rw has_it refl)

struct_halts : (all before : List Token) (t : Token) (after : List Token) (ss : List Statement) → all ≡ before ++ t ∷ after → t.lexeme ≡ word (codes "struct") → StandsBehind (spelling before) ss [] → is_some (said ss).table ≡ true → goes (Start nothing_given) all ≡ halt faults.SecondStruct t.place
struct_halts all before t after ss is x b second =
    halts_now all before t after (Start (said ss)) _ is (comes all before t after ss [] is b)
    (ap (λ y. and_then (step (Start (said ss)) (record { lexeme = y; place = t.place })) (λ s. goes s after)) x ∙ rw second refl)

-- behind its name a column shows to be too wide
length_known : (n : ℕ) → (1 ≤ n) × (n ≤ max_array_length) → length_of (Number (Some (pos n))) ≡ Some n
length_known n is = rw (le-leb 1 n is.0, le-leb n max_array_length is.1) refl

not_bracket : (x : Option Lexeme) → (x ≡ sign 91 → ⊥) → has 91 x ≡ false
not_bracket x isnt =
    elim (cases_Bool (has 91 x)) [
      | inl t ↦ absurd (isnt (sign_is 91 x t))
      | inr f ↦ f
    ]

behind_name : (h : Header) (row : Row) (kind : Kind) (name : List ℕ) (place : ℕ) (after : List Token) (x : Spelling) (n : ℕ) → spelling after ≡ x → HasValues x n → nat_lt max_row_bytes (row.width + bytes_of kind * n) ≡ true → goes (ItemName h row kind name place) after ≡ halt faults.TooWide place
unfolding goes
behind_name h row kind name place [] x n e (Plain y more isnt) wide = absurd cc
behind_name h row kind name place (t ∷ after) x n e (Plain y more isnt) wide =
    (let same : t.lexeme ≡ y = cc in
    let no : has 91 t.lexeme ≡ false = not_bracket t.lexeme (λ is. isnt (sym same ∙ is)) in
    rw (no, wide) refl)
behind_name h row kind name place [] x n e (Array m more is) wide = absurd cc
behind_name h row kind name place (t ∷ []) x n e (Array m more is) wide = absurd cc
behind_name h row kind name place (t ∷ u ∷ after) x n e (Array m more is) wide =
    (let first : t.lexeme ≡ sign 91 = cc in
    let second : u.lexeme ≡ count m = cc in
    rw (first, second, length_known m is, wide) refl)

wide_halts : (all before : List Token) (t : Token) (after : List Token) (name : List ℕ) → all ≡ before ++ t ∷ after → t.lexeme ≡ word name → IsTooWide (spelling before) (spelling after) name → goes (Start nothing_given) all ≡ halt faults.TooWide t.place
wide_halts all before t after name is x w =
    halts_now all before t after (AtItem h w.row w.type.kind) _ is (column_comes all before t after w.type w.row is w.column)
    (ap (λ r. and_then r (λ s. goes s after)) (item_step h w.row w.type.kind t name x) ∙ go (cases_Bool (length w.row.fields == max_columns)))
  where
    h : Header
    h = said w.column.statements

    go : (((length w.row.fields == max_columns) ≡ true) ⊎ ((length w.row.fields == max_columns) ≡ false)) → and_then (on_item h w.row w.type.kind t.place name) (λ s. goes s after) ≡ halt faults.TooWide t.place
    go (inl full) = rw (w.new, full) refl
    go (inr room) =
        elim w.wide [
          | inl full ↦ rw (w.new, full) refl
          | inr n ↦ rw (w.new, room) (behind_name h w.row w.type.kind name t.place after (spelling after) n.0 refl n.1 n.2)
        ]

-- a token that decides a fault of what statements say ends the run with it
pub sense_halts : (all before : List Token) (t : Token) (after : List Token) (k : FaultKind) → all ≡ before ++ t ∷ after → IsOfSense k → Decides k (spelling before) t.lexeme (spelling after) → goes (Start nothing_given) all ≡ halt k t.place
sense_halts all before t after faults.Syntax is sense d = absurd sense
sense_halts all before t after faults.UnknownType is sense d = absurd sense
sense_halts all before t after faults.NameTwice is sense d =
    elim d.2 [
      | inl n ↦ name_halts all before t after d.0 is d.1 n
      | inr c ↦ column_twice all before t after d.0 c.0 c.1 is d.1 c.2 c.3
    ]
sense_halts all before t after faults.SecondStruct is sense d = struct_halts all before t after d.1 is d.0 d.2 d.3
sense_halts all before t after faults.TooWide is sense d = wide_halts all before t after d.0 is d.1 d.2
