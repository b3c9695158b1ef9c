-- One token at most stops, and it decides one fault.
use Rattle.std.proofs.Common.{◌≡◌, ℕ, inl, inr, List, [], ◌∷◌, ◌++◌, Option, refl, sym, ap, subst, ◌∙◌, append_assoc}
use Rattle.std.specs.Prelude.{codes}
use Rattle.std.proofs.lemmas.List.{append-nil}
use Rattle.sdf_tokens.specs.declared.fault.FaultKind.{FaultKind}
use Rattle.sdf_tokens.specs.declared.fault.FaultKind.TheVariants as faults
use Rattle.sdf_tokens.specs.Tokens.{Lexeme}
use Rattle.header_grammar.specs.TokenList.{Token, tokens}
use Rattle.sdf_header.specs.Statements.{Header}
use Rattle.header_grammar.specs.Grammar.{Spelling, spelling, word}
use Rattle.header_grammar.specs.Faults.{Continues, Stops, TypeWanted, BehindUnsigned, IsTypeWord, Decides, FaultAt, IsHeader}
use Rattle.header_grammar.specs.Judgement.{IsOfSense}
use Rattle.header_grammar.proofs.Faults.{spelling-append, front_continues}

-- two places in one list: one before the other, or the same
data Compared (b c : List Token) (t u : Token) (a d : List Token) : Type 0 where
  Before : (m : List Token) → c ≡ b ++ t ∷ m → Compared b c t u a d
  Same : b ≡ c → t ≡ u → a ≡ d → Compared b c t u a d
  Behind : (m : List Token) → b ≡ c ++ u ∷ m → Compared b c t u a d

heads : (t u : Token) (a b : List Token) → t ∷ a ≡ u ∷ b → t ≡ u
heads t u a b e = cc

tails : (t u : Token) (a b : List Token) → t ∷ a ≡ u ∷ b → a ≡ b
tails t u a b e = cc

compare : (b c : List Token) (t u : Token) (a d : List Token) → b ++ t ∷ a ≡ c ++ u ∷ d → Compared b c t u a d
compare [] [] t u a d e = Same refl (heads t u a d e) (tails t u a d e)
compare [] (x ∷ c) t u a d e = Before c (ap (λ y. y ∷ c) (sym (heads t x a (c ++ u ∷ d) e)))
compare (x ∷ b) [] t u a d e = Behind b (ap (λ y. y ∷ b) (heads x u (b ++ t ∷ a) d e))
compare (x ∷ b) (y ∷ c) t u a d e = go (compare b c t u a d (tails x y (b ++ t ∷ a) (c ++ u ∷ d) e)) (heads x y (b ++ t ∷ a) (c ++ u ∷ d) e)
  where
    go : Compared b c t u a d → x ≡ y → Compared (x ∷ b) (y ∷ c) t u a d
    go (Before m is) same = Before m (ap (λ z. z ∷ c) (sym same) ∙ ap (λ z. x ∷ z) is)
    go (Same p q r) same = Same (ap (λ z. z ∷ b) same ∙ ap (λ z. y ∷ z) p) q r
    go (Behind m is) same = Behind m (ap (λ z. z ∷ b) same ∙ ap (λ z. y ∷ z) is)

-- what can go on has no token that stops
no_stop : (b m : List Token) (t : Token) (c : List Token) → c ≡ b ++ t ∷ m → Continues (spelling c) → (Continues (spelling b ++ t.lexeme ∷ []) → ⊥) → ⊥
no_stop b m t c is goes_on stops =
    stops (front_continues (spelling b ++ t.lexeme ∷ []) (spelling m) (subst Continues (ap spelling is ∙ spelling-append b (t ∷ m) ∙ sym (append_assoc (spelling b) (t.lexeme ∷ []) (spelling m))) goes_on))

-- the token that stops is one
pub one_stop : (b c : List Token) (t u : Token) (a d : List Token) → b ++ t ∷ a ≡ c ++ u ∷ d → Stops (spelling b) t.lexeme → Stops (spelling c) u.lexeme → (b ≡ c) × (t ≡ u) × (a ≡ d)
one_stop b c t u a d e s r = go (compare b c t u a d e)
  where
    go : Compared b c t u a d → (b ≡ c) × (t ≡ u) × (a ≡ d)
    go (Before m is) = absurd (no_stop b m t c is r.0 s.1)
    go (Same p q x) = (p, q, x)
    go (Behind m is) = absurd (no_stop c m u b is s.0 r.1)

-- ---- how a token stops

-- the token that stops in a text, where a fault of its spelling is
pub record StopAt (all : List Token) : Type 0 where
  pub before : List Token
  pub token : Token
  pub after : List Token
  pub is : all ≡ before ++ token ∷ after
  pub stops : Stops (spelling before) token.lexeme

-- and what it decides
pub data Way (all : List Token) (place : ℕ) (s : StopAt all) : FaultKind → Type 0 where
  OfSyntax : s.token.place ≡ place → (IsTypeWord (spelling s.before) s.token.lexeme → ⊥) → (BehindUnsigned (spelling s.before) → ⊥) → Way all place s faults.Syntax
  OfWord : s.token.place ≡ place → IsTypeWord (spelling s.before) s.token.lexeme → (BehindUnsigned (spelling s.before) → ⊥) → Way all place s faults.UnknownType
  OfUnsigned : (front : List Token) (t : Token) → s.before ≡ front ++ t ∷ [] → t.place ≡ place → BehindUnsigned (spelling s.before) → Way all place s faults.UnknownType

-- the way of a fault
pub record Stopped (all : List Token) (kind : FaultKind) (place : ℕ) : Type 0 where
  pub stop : StopAt all
  pub way : Way all place stop kind

unsigned_way : (all before : List Token) (t : Token) (after : List Token) (place : ℕ) (y : Option Lexeme) (more : Spelling) → all ≡ before ++ t ∷ after → t.place ≡ place → t.lexeme ≡ word (codes "unsigned") → TypeWanted (spelling before) → spelling after ≡ y ∷ more → Stops (spelling before ++ t.lexeme ∷ []) y → Stopped all faults.UnknownType place
unsigned_way all before t [] place y more is at x wanted behind stops = absurd cc
unsigned_way all before t (u ∷ after) place y more is at x wanted behind stops =
    (let front : spelling (before ++ t ∷ []) ≡ spelling before ++ t.lexeme ∷ [] = spelling-append before (t ∷ []) in
    let same : u.lexeme ≡ y = cc in
    record {
      stop = record {
        before = before ++ t ∷ [];
        token = u;
        after = after;
        is = is ∙ sym (append_assoc before (t ∷ []) (u ∷ after));
        stops = subst (λ z. Stops z u.lexeme) (sym front) (subst (λ z. Stops (spelling before ++ t.lexeme ∷ []) z) (sym same) stops);
      };
      way = OfUnsigned before t refl at (spelling before, front ∙ ap (λ z. spelling before ++ z ∷ []) x, wanted);
    })

-- a token that decides a fault of the grammar stops
pub stopped : (all before : List Token) (t : Token) (after : List Token) (kind : FaultKind) (place : ℕ) → all ≡ before ++ t ∷ after → t.place ≡ place → (IsOfSense kind → ⊥) → Decides kind (spelling before) t.lexeme (spelling after) → Stopped all kind place
stopped all before t after faults.Syntax place is at bad d = record { stop = record { before = before; token = t; after = after; is = is; stops = d.0 }; way = OfSyntax at d.1 d.2 }
stopped all before t after faults.UnknownType place is at bad d =
    elim d [
      | inl w ↦ record { stop = record { before = before; token = t; after = after; is = is; stops = w.0 }; way = OfWord at w.1 w.2 }
      | inr u ↦ unsigned_way all before t after place u.2 u.3 is at u.0 u.1 u.4 u.5
    ]
stopped all before t after faults.NameTwice place is at bad d = absurd (bad tt)
stopped all before t after faults.SecondStruct place is at bad d = absurd (bad tt)
stopped all before t after faults.TooWide place is at bad d = absurd (bad tt)

last_or : Token → List Token → Token
last_or d [] = d
last_or d (x ∷ xs) = last_or x xs

last_is : (xs : List Token) (d x : Token) → last_or d (xs ++ x ∷ []) ≡ x
unfolding last_or
last_is [] d x = refl
last_is (y ∷ xs) d x = last_is xs y x

same_last : (a b : List Token) (x y : Token) → a ++ x ∷ [] ≡ b ++ y ∷ [] → x ≡ y
same_last a b x y e = sym (last_is a x x) ∙ ap (last_or x) e ∙ last_is b x y

-- two ways of one stop are one
ways : (all : List Token) (s r : StopAt all) (k l : FaultKind) (p q : ℕ) → s.before ≡ r.before → s.token ≡ r.token → Way all p s k → Way all q r l → (k ≡ l) × (p ≡ q)
ways all s r k l p q b t (OfSyntax at no_word alone) (OfSyntax at' no_word' alone') = (refl, sym at ∙ ap (λ (x : Token). x.place) t ∙ at')
ways all s r k l p q b t (OfSyntax at no_word alone) (OfWord at' is alone') = absurd (no_word (subst (λ z. IsTypeWord (spelling z) s.token.lexeme) (sym b) (subst (λ (z : Token). IsTypeWord (spelling r.before) z.lexeme) (sym t) is)))
ways all s r k l p q b t (OfSyntax at no_word alone) (OfUnsigned front u is at' behind) = absurd (alone (subst (λ z. BehindUnsigned (spelling z)) (sym b) behind))
ways all s r k l p q b t (OfWord at is alone) (OfSyntax at' no_word alone') = absurd (no_word (subst (λ z. IsTypeWord (spelling z) r.token.lexeme) b (subst (λ (z : Token). IsTypeWord (spelling s.before) z.lexeme) t is)))
ways all s r k l p q b t (OfWord at is alone) (OfWord at' is' alone') = (refl, sym at ∙ ap (λ (x : Token). x.place) t ∙ at')
ways all s r k l p q b t (OfWord at is alone) (OfUnsigned front u is' at' behind) = absurd (alone (subst (λ z. BehindUnsigned (spelling z)) (sym b) behind))
ways all s r k l p q b t (OfUnsigned front u is at behind) (OfSyntax at' no_word alone) = absurd (alone (subst (λ z. BehindUnsigned (spelling z)) b behind))
ways all s r k l p q b t (OfUnsigned front u is at behind) (OfWord at' is' alone) = absurd (alone (subst (λ z. BehindUnsigned (spelling z)) b behind))
ways all s r k l p q b t (OfUnsigned front u is at behind) (OfUnsigned front' u' is' at' behind') = (refl, sym at ∙ ap (λ (x : Token). x.place) (same_last front front' u u' (sym is ∙ b ∙ is')) ∙ at')

-- two tokens that stop are one, with one fault
pub one_fault : (all : List Token) (k l : FaultKind) (p q : ℕ) → Stopped all k p → Stopped all l q → (k ≡ l) × (p ≡ q)
one_fault all k l p q s r =
    let same = one_stop s.stop.before r.stop.before s.stop.token r.stop.token s.stop.after r.stop.after (sym s.stop.is ∙ r.stop.is) s.stop.stops r.stop.stops in
    ways all s.stop r.stop k l p q same.0 same.1 s.way r.way

-- a fault of the grammar stands at a token that stops
pub fault_stops : (text : List ℕ) (kind : FaultKind) (place : ℕ) → (IsOfSense kind → ⊥) → FaultAt text kind place → Stopped (tokens text) kind place
fault_stops text kind place bad f = stopped (tokens text) f.before f.token f.after kind place f.is f.stands bad f.decides

-- a header has no token that stops
pub header_has_none : (text : List ℕ) (h : Header) → IsHeader text h → StopAt (tokens text) → ⊥
header_has_none text h i s =
    let whole : Continues (spelling (tokens text)) = record { more = []; statements = i.statements; spells = record { are = i.spells.are; spelled = nil (spelling (tokens text)) ∙ i.spells.spelled } } in
    no_stop s.before s.after s.token (tokens text) s.is whole s.stops.1
  where
    nil : (xs : Spelling) → xs ++ [] ≡ xs
    nil xs = append-nil xs
