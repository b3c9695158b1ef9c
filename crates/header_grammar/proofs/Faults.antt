-- Why a run halts.
use Rattle.std.proofs.Common.{◌≡◌, ℕ, ◌-◌, true, List, [], ◌∷◌, ◌++◌, length, map, Some, None, Result, Ok, Err, pos, refl, sym, ap, subst, ◌∙◌, append_assoc, arith}
use Rattle.std.specs.Prelude.{codes}
use Rattle.std.proofs.lemmas.List.{append-nil}
use Rattle.sdf_tokens.specs.declared.fault.Fault.{Fault}
use Rattle.sdf_tokens.specs.declared.fault.FaultKind.{FaultKind}
use Rattle.sdf_header.specs.declared.kind.Kind.{Kind}
use Rattle.sdf_header.specs.declared.kind.Kind.TheVariants as kinds
use Rattle.sdf_header.specs.declared.kind.Whole.TheVariants as wholes
use Rattle.sdf_header.specs.declared.document.Value.TheVariants as values
use Rattle.sdf_tokens.specs.Tokens.{Lexeme, Number, Text, End}
use Rattle.header_grammar.specs.TokenList.{Token, tokens}
use Rattle.sdf_header.specs.Types.{is_char}
use Rattle.sdf_header.specs.Fields.{Row}
use Rattle.sdf_header.specs.Statements.{Header, nothing_given, header_in}
use Rattle.header_grammar.specs.Grammar.{Spelling, spelling, word, sign, count, TypeName, IsType, Item, FieldLine, Statement, Parameter, Constant, Label, Struct, IsLength, AreItems, IsStatement, spell_type, spell_item, spell_earlier, spell_line, spell_lines, spell, spell_each}
use Rattle.header_grammar.specs.Faults.{Continues, IsHeader}
use Rattle.header_grammar.specs.Judgement.{IsOfSense}
use Rattle.header_grammar.proofs.Machine.{Halt, halt, State, Done, Start, Wants, ParamName, ParamValue, Unsigned, Typed, Named, NumberFor, TextSize, TextValue, Fields, FieldUnsigned, Item as AtItem, ItemName, Length, ItemEnd, StructSize, step, and_then, goes}
use Rattle.header_grammar.proofs.Simulation.{onward, done, header_goes}
use Rattle.header_grammar.proofs.Leads.{EndsOrBySense, no_bad_spelling, ends_well}
use Rattle.header_grammar.proofs.Sits.{spell_each-one, spell_lines-one, are_statements-one, are_lines-one, Before, Whole, InStruct, InLine, Sits, sits_on}

-- ---- at each state the tokens so far can go on to statements

by_statement : (h : Header) (b : Spelling) (part : Spelling → Spelling) → Before h b part → (s : Statement) → IsStatement s → (more : Spelling) → part more ≡ spell s (Some End ∷ []) → Continues b
by_statement h b part p s is more e = record {
  more = more;
  statements = p.statements ++ s ∷ [];
  spells = record { are = are_statements-one p.statements s p.are is; spelled = p.spelled more ∙ ap (spell_each p.statements) e ∙ sym (spell_each-one p.statements s (Some End ∷ [])) };
}

abbrev zero_token : Lexeme
zero_token = Number (Some (pos 0))

abbrev the_int : TypeName
the_int = record { unsigned = true; word = codes "int"; kind = kinds.Whole wholes.U32 }

abbrev no_size_end : Spelling
no_size_end = sign 91 ∷ sign 93 ∷ sign 59 ∷ Some End ∷ []

by_line : (h : Header) (row : Row) (b : Spelling) (part : Spelling → Spelling) → InStruct h row b part → (l : FieldLine) → IsType l.type × AreItems l.earlier × IsLength l.last.length → (more : Spelling) → part more ≡ spell_line l (sign 125 ∷ no_size_end) → Continues b
by_line h row b part s l is more e =
    by_statement h b _ s.before (Struct (s.lines ++ l ∷ []) None) (are_lines-one s.lines l s.are is, tt) more
    (ap (λ x. word (codes "struct") ∷ sign 123 ∷ spell_lines s.lines x) e ∙ ap (λ x. word (codes "struct") ∷ sign 123 ∷ x) (sym (spell_lines-one s.lines l (sign 125 ∷ no_size_end))))

by_item : (h : Header) (row : Row) (kind : Kind) (b : Spelling) (part : Spelling → Spelling) → InLine h row kind b part → (i : Item) → IsLength i.length → (more : Spelling) → part more ≡ spell_item i (sign 59 ∷ sign 125 ∷ no_size_end) → Continues b
by_item h row kind b part l i is more e =
    by_line h l.first b _ l.struct (record { type = l.type; earlier = l.earlier; last = i }) (l.is, l.are, is) more (ap (λ x. spell_type l.type (spell_earlier l.earlier x)) e)

-- where tokens lead to a state, statements can follow
pub continues : (s : State) (b : Spelling) → Sits s b → Continues b
continues (Done h) b w = record { more = []; statements = w.statements; spells = record { are = w.are; spelled = append-nil b ∙ w.spelled } }
continues (Start h) b p = record { more = Some End ∷ []; statements = p.statements; spells = record { are = p.are; spelled = p.spelled (Some End ∷ []) } }
continues (Wants s after) b sits =
    (let c = continues after (b ++ sign s ∷ []) sits in
    record { more = sign s ∷ c.more; statements = c.statements; spells = record { are = c.spells.are; spelled = sym (append_assoc b (sign s ∷ []) c.more) ∙ c.spells.spelled } })
continues (ParamName h) b p = by_statement h b _ p (Parameter [] Text values.Other) refl (word [] ∷ sign 61 ∷ Some Text ∷ sign 59 ∷ Some End ∷ []) refl
continues (ParamValue h name) b p = by_statement h b _ p.1 (Parameter name Text values.Other) refl (Some Text ∷ sign 59 ∷ Some End ∷ []) refl
continues (Unsigned h q) b p = by_statement h b _ p (Constant the_int [] zero_token (values.Whole (pos 0))) (refl, refl) (word (codes "int") ∷ word [] ∷ sign 61 ∷ Some zero_token ∷ sign 59 ∷ Some End ∷ []) refl
continues (Typed h kind) b t = by_statement h b _ t.before (Constant t.type [] zero_token (values.Whole (pos 0))) (t.is, refl) (word [] ∷ sign 61 ∷ Some zero_token ∷ sign 59 ∷ Some End ∷ []) refl
continues (Named h kind name) b t = by_statement h b _ t.1.before (Constant t.1.type name zero_token (values.Whole (pos 0))) (t.1.is, refl) (sign 61 ∷ Some zero_token ∷ sign 59 ∷ Some End ∷ []) refl
continues (NumberFor h kind name) b t = by_statement h b _ t.1.before (Constant t.1.type name zero_token (values.Whole (pos 0))) (t.1.is, refl) (Some zero_token ∷ sign 59 ∷ Some End ∷ []) refl
continues (TextSize h name) b t = by_statement h b _ t.type.before (Label t.type.type name None) (t.type.is, ap is_char t.type.kind_is ∙ t.char, tt) (sign 93 ∷ sign 61 ∷ Some Text ∷ sign 59 ∷ Some End ∷ []) refl
continues (TextValue h name) b t = by_statement h b _ t.text.type.before (Label t.text.type.type name t.size) (t.text.type.is, ap is_char t.text.type.kind_is ∙ t.text.char, t.is) (Some Text ∷ sign 59 ∷ Some End ∷ []) refl
continues (Fields h row) b s = by_statement h b _ s.before (Struct s.lines None) (s.are, tt) (sign 125 ∷ no_size_end) refl
continues (FieldUnsigned h row q) b s = by_line h row b _ s (record { type = the_int; earlier = []; last = record { name = []; length = None } }) (refl, tt, tt) (word (codes "int") ∷ word [] ∷ sign 59 ∷ sign 125 ∷ no_size_end) refl
continues (AtItem h row kind) b l = by_item h row kind b _ l (record { name = []; length = None }) tt (word [] ∷ sign 59 ∷ sign 125 ∷ no_size_end) refl
continues (ItemName h row kind name q) b l = by_item h row kind b _ l.line (record { name = name; length = None }) tt (sign 59 ∷ sign 125 ∷ no_size_end) refl
continues (Length h row kind name q) b l = by_item h row kind b _ l.line (record { name = name; length = Some 1 }) (omega arith, omega arith) (count 1 ∷ sign 93 ∷ sign 59 ∷ sign 125 ∷ no_size_end) refl
continues (ItemEnd h row kind) b r = by_item h r.narrower kind b _ r.line r.item r.is (sign 59 ∷ sign 125 ∷ no_size_end) refl
continues (StructSize h row) b s = by_statement h b _ s.before (Struct s.lines None) (s.are, tt) (sign 93 ∷ sign 59 ∷ Some End ∷ []) refl

-- ---- runs in two parts

-- a run over two lists is a run over the first and then over the second
pub goes-append : (s : State) (a b : List Token) → goes s (a ++ b) ≡ and_then (goes s a) (λ s. goes s b)
unfolding goes
goes-append s [] b = refl
goes-append s (t ∷ a) b = go (step s t) (λ s. goes-append s a b)
  where
    go : (r : Result State Halt) → ((s : State) → goes s (a ++ b) ≡ and_then (goes s a) (λ s. goes s b)) → and_then r (λ s. goes s (a ++ b)) ≡ and_then (and_then r (λ s. goes s a)) (λ s. goes s b)
    go (Err e) ih = refl
    go (Ok s) ih = ih s

-- the spelling of two lists is both spellings joined
pub spelling-append : (a b : List Token) → spelling (a ++ b) ≡ spelling a ++ spelling b
spelling-append [] b = refl
spelling-append (t ∷ a) b = ap (λ x. t.lexeme ∷ x) (spelling-append a b)

placed : Spelling → List Token
placed xs = map (λ x. record { lexeme = x; place = 0 }) xs

placed_spelling : (xs : Spelling) → spelling (placed xs) ≡ xs
unfolding placed
placed_spelling [] = refl
placed_spelling (x ∷ xs) = ap (λ y. x ∷ y) (placed_spelling xs)

-- a fault that is not of the sense cannot be gone on from
pub dead_end : (before : List Token) (t : Token) (s : State) (k : FaultKind) (q : ℕ) → goes (Start nothing_given) before ≡ Ok s → step s t ≡ halt k q → (IsOfSense k → ⊥) → Continues (spelling before ++ t.lexeme ∷ []) → ⊥
unfolding goes
dead_end before t s k q run halts bad c =
    let ts = before ++ t ∷ placed c.more in
    let e : spelling ts ≡ spell_each c.statements (Some End ∷ []) = spelling-append before (t ∷ placed c.more) ∙ ap (λ x. spelling before ++ t.lexeme ∷ x) (placed_spelling c.more) ∙ sym (append_assoc (spelling before) (t.lexeme ∷ []) c.more) ∙ c.spells.spelled in
    let is : goes (Start nothing_given) ts ≡ halt k q = goes-append (Start nothing_given) before (t ∷ placed c.more) ∙ ap (λ r. and_then r (λ s. goes s (t ∷ placed c.more))) run ∙ ap (λ r. and_then r (λ s. goes s (placed c.more))) halts in
    bad (subst EndsOrBySense is (no_bad_spelling nothing_given c.statements ts c.spells.are e))

-- where a run halts
pub record Halted (s : State) (ts : List Token) (k : FaultKind) (q : ℕ) : Type 0 where
  pub before : List Token
  pub token : Token
  pub after : List Token
  pub state : State
  pub is : ts ≡ before ++ token ∷ after
  pub run : goes s before ≡ Ok state
  pub halts : step state token ≡ halt k q

ok_err : {B : Type 0} (s : State) (k : FaultKind) (p : ℕ) → ◌≡◌ {A = Result State Halt} (Ok s) (halt k p) → B
ok_err s k p e = absurd cc

-- a run that ends in a fault halts at one of its tokens
pub halted : (s : State) (ts : List Token) (k : FaultKind) (q : ℕ) → goes s ts ≡ halt k q → Halted s ts k q
unfolding goes
halted s [] k q e = ok_err s k q e
halted s (t ∷ ts) k q e = go (step s t) refl e (λ s' e'. halted s' ts k q e')
  where
    go : (r : Result State Halt) → step s t ≡ r → and_then r (λ s. goes s ts) ≡ halt k q → ((s' : State) → goes s' ts ≡ halt k q → Halted s' ts k q) → Halted s (t ∷ ts) k q
    go (Err x) is e ih = record { before = []; token = t; after = ts; state = s; is = refl; run = refl; halts = is ∙ e }
    go (Ok s') is e ih = (let h = ih s' e in record { before = t ∷ h.before; token = h.token; after = h.after; state = h.state; is = ap (λ x. t ∷ x) h.is; run = ap (λ r. and_then r (λ s. goes s h.before)) is ∙ h.run; halts = h.halts })

ok_is : (s s1 : State) → ◌≡◌ {A = Result State Halt} (Ok s) (Ok s1) → s ≡ s1
ok_is s s1 e = cc

err_ok : {B : Type 0} (e : Halt) (s : State) → ◌≡◌ {A = Result State Halt} (Err e) (Ok s) → B
err_ok e s is = absurd cc

-- a run keeps what the tokens so far spell
pub sits_all : (ts : List Token) (s s1 : State) (b : Spelling) → goes s ts ≡ Ok s1 → Sits s b → Sits s1 (b ++ spelling ts)
unfolding goes
sits_all [] s s1 b e sits = subst (λ x. Sits s1 x) (sym (append-nil b)) (subst (λ s. Sits s b) (ok_is s s1 e) sits)
sits_all (t ∷ ts) s s1 b e sits = go (step s t) refl e (λ s' e' sits'. sits_all ts s' s1 (b ++ t.lexeme ∷ []) e' sits')
  where
    go : (r : Result State Halt) → step s t ≡ r → and_then r (λ s. goes s ts) ≡ Ok s1 → ((s' : State) → goes s' ts ≡ Ok s1 → Sits s' (b ++ t.lexeme ∷ []) → Sits s1 ((b ++ t.lexeme ∷ []) ++ spelling ts)) → Sits s1 (b ++ t.lexeme ∷ spelling ts)
    go (Err x) is e ih = err_ok x s1 e
    go (Ok s') is e ih = subst (λ x. Sits s1 x) (append_assoc b (t.lexeme ∷ []) (spelling ts)) (ih s' e (sits_on s s' b t.lexeme t.place is sits))

-- at the start no token was read
pub nothing_sits : Sits (Start nothing_given) []
nothing_sits = record { statements = []; are = tt; fit = tt; say = refl; spelled = λ rest. refl }

-- ---- a header is statements

header_or : Header → State → Header
header_or d (Done h) = h
header_or d _ = d

done_is : (h h1 : Header) → ◌≡◌ {A = Result State Halt} (done h) (done h1) → h ≡ h1
unfolding header_or
done_is h h1 e = ap (header_or h) (ok_is (Done h) (Done h1) e)

ok_only : (r : Result Header Fault) (z : ℕ) (h : Header) → onward z done r ≡ done h → r ≡ Ok h
ok_only (Ok x) z h e = ap (λ x. Ok x) (done_is x h e)
ok_only (Err f) z h e = err_ok (record { kind = f.kind; place = z - f.left }) (Done h) e

-- what is read as a header is one
pub is_header : (text : List ℕ) (h : Header) → header_in text ≡ Ok h → IsHeader text h
is_header text h e =
    let w : Whole h (spelling (tokens text)) = sits_all (tokens text) (Start nothing_given) (Done h) [] (header_goes (length text) text ∙ ap (onward (length text) done) e) nothing_sits in
    record { statements = w.statements; spells = record { are = w.are; spelled = w.spelled }; fit = w.fit; say = w.say }

-- a header is read as such
pub header_is : (text : List ℕ) (h : Header) → IsHeader text h → header_in text ≡ Ok h
header_is text h i = ok_only (header_in text) (length text) h (sym (header_goes (length text) text) ∙ ends_well nothing_given i.statements (tokens text) i.spells.are i.spells.spelled i.fit ∙ ap done i.say)

-- what can go on, can before its last tokens
pub front_continues : (a b : Spelling) → Continues (a ++ b) → Continues a
front_continues a b c = record { more = b ++ c.more; statements = c.statements; spells = record { are = c.spells.are; spelled = sym (append_assoc a b c.more) ∙ c.spells.spelled } }
