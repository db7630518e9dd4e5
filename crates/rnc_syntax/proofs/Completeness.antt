-- Whatever is in the grammar is read, independent of what follows: lists of items, literals, parameters and mentions.
use Rattle.std.proofs.Common.{◌≡◌, ℕ, zero, suc, ◌<◌, ◌≤◌, List, [], ◌∷◌, ◌++◌, length, Option, Some, None, Ok, refl, sym, ap, subst, ◌∙◌, append_assoc, arith}
use Rattle.std.proofs.lemmas.List.{append-nil, length-append}
use Rattle.rnc_model.specs.declared.token.Keyword.TheVariants as keywords
use Rattle.rnc_model.specs.declared.token.Sign.{Sign}
use Rattle.rnc_model.specs.declared.token.Sign.TheVariants.{Equal, OpenBrace, CloseBrace, Tilde}
use Rattle.rnc_model.specs.tokens.Cut.{Lexeme, Spelling, keyword, identifier, segment, sign}
use Rattle.rnc_model.specs.grammar.NameClasses as grammar
use Rattle.rnc_model.specs.grammar.NameClasses.{word_of, MayBeAnnotation, IsLiteral, AreParameters, MayBeParameters, MayInherit}
use Rattle.rnc_syntax.specs.plain.Combinators.{Outcome, follow, follow_keyword, after, word_at, segment_at, many_with, many}
use Rattle.rnc_syntax.specs.plain.Productions.{literal_at, parameter_at, parameter_front, annotated_parameter_at, in_braces_at, parameters_at, word_after_equal}
use Rattle.rnc_syntax.specs.plain.Productions.{inherit_at, mention_at}
use Rattle.rnc_model.specs.grammar.SyntaxTrees.{joined_text}
use Rattle.rnc_syntax.proofs.CompletenessAnnotations.{StandsAlone, annotated_behind}

-- ---- items one after another

module _ {A : Type 0} (next : List Lexeme → Option (List Lexeme)) (item : List Lexeme → Outcome A) where
  -- these items are read with any number of steps that is at least the number of tokens
  abbrev pub Manys : List Lexeme → List A → List Lexeme → Type 0
  Manys ts xs rest = (k : ℕ) → length ts ≤ k → many_with next item k ts ≡ Ok (xs, rest)

  pub manys_end : (rest : List Lexeme) → next rest ≡ None → Manys rest [] rest
  unfolding many_with
  manys_end rest is zero le = refl
  manys_end rest is (suc k) le = rw is refl

  pub manys_more : (ts us r rest : List Lexeme) (x : A) (xs : List A) → next ts ≡ Some us → item us ≡ Ok (x, r) → length r < length ts → Manys r xs rest
      → Manys ts (x ∷ xs) rest
  unfolding many_with
  manys_more ts us r rest x xs is one less others zero le = absurd (omega (arith, less, le))
  manys_more ts us r rest x xs is one less others (suc k) le = rw (is, one, others k (omega (arith, less, le))) refl

  pub manys_read : (ts rest : List Lexeme) (xs : List A) → Manys ts xs rest → many next item ts ≡ Ok (xs, rest)
  manys_read ts rest xs m = m (length ts) (omega arith)

pub shorter : (x : Lexeme) (a r : List Lexeme) → length r < length (x ∷ (a ++ r))
shorter x a r = omega (arith, length-append a r)

-- ---- words

pub word_read : (x : Lexeme) (w : List ℕ) (rest : List Lexeme) → word_of x ≡ Some w → word_at (x ∷ rest) ≡ Ok (w, rest)
unfolding word_at
word_read (identifier v) w rest e = let q : v ≡ w = cc in ap (λ (w : List ℕ). Ok (w, rest)) q
word_read (keyword k s) w rest e = let q : s.text ≡ w = cc in ap (λ (w : List ℕ). Ok (w, rest)) q
word_read _ w rest e = absurd cc

word_fronts : (x : Lexeme) (w : List ℕ) (rest : List Lexeme) → word_of x ≡ Some w → parameter_front (x ∷ rest) ≡ Some (x ∷ rest)
word_fronts (identifier v) w rest e = refl
word_fronts (keyword k s) w rest e = refl
word_fronts _ w rest e = absurd cc

pub word_no_sign : (s : Sign) (x : Lexeme) (w : List ℕ) (rest : List Lexeme) → word_of x ≡ Some w → follow s (x ∷ rest) ≡ None
word_no_sign s (identifier v) w rest e = refl
word_no_sign s (keyword k t) w rest e = refl
word_no_sign s _ w rest e = absurd cc

-- ---- literals

record Segmented (ts : List Lexeme) (v : List ℕ) (rest : List Lexeme) : Type 0 where
  pub first : List ℕ
  pub others : List (List ℕ)
  pub behind : List Lexeme
  pub parts : ts ++ rest ≡ segment first ∷ behind
  pub value : v ≡ joined_text (first ∷ others)
  pub are : Manys (follow Tilde) segment_at behind others rest

segment_more : (w : List ℕ) (ws : List (List ℕ)) (ts us rest : List Lexeme) → ts ≡ segment w ∷ us → Manys (follow Tilde) segment_at us ws rest
    → Manys (follow Tilde) segment_at (sign Tilde ∷ ts) (w ∷ ws) rest
unfolding segment_at
segment_more w ws ts us rest e m = manys_more (follow Tilde) segment_at (sign Tilde ∷ ts) ts us rest w ws refl (rw e refl) (omega (arith, ap length e)) m

literal_parts : {ts : List Lexeme} {v : List ℕ} → IsLiteral ts v → (rest : List Lexeme) → follow Tilde rest ≡ None → Segmented ts v rest
literal_parts (grammar.one_segment {w = w} e) rest is = record {
  first = w;
  others = [];
  behind = rest;
  parts = ap (λ (ts : List Lexeme). ts ++ rest) e;
  value = sym (append-nil w);
  are = manys_end (follow Tilde) segment_at rest is;
}
literal_parts (grammar.more_segments {a = a} {w = w} {u = u} p e f) rest is =
    let q = literal_parts p rest is in
    record {
      first = w;
      others = q.first ∷ q.others;
      behind = sign Tilde ∷ (a ++ rest);
      parts = ap (λ (ts : List Lexeme). ts ++ rest) e;
      value = f ∙ ap (λ (u : List ℕ). w ++ u) q.value;
      are = segment_more q.first q.others (a ++ rest) q.behind rest q.parts q.are;
    }

literal_joined : (ts us rest : List Lexeme) (w : List ℕ) (ws : List (List ℕ)) (v : List ℕ) → ts ≡ segment w ∷ us → v ≡ joined_text (w ∷ ws)
    → many (follow Tilde) segment_at us ≡ Ok (ws, rest) → literal_at ts ≡ Ok (v, rest)
unfolding literal_at segment_at
literal_joined ts us rest w ws v e f m = rw (e, m, f) refl

pub literal_complete : {ts : List Lexeme} {v : List ℕ} → IsLiteral ts v → (rest : List Lexeme) → follow Tilde rest ≡ None
    → literal_at (ts ++ rest) ≡ Ok (v, rest)
literal_complete {ts} {v} p rest is =
    let q = literal_parts p rest is in
    literal_joined (ts ++ rest) q.behind rest q.first q.others v q.parts q.value (manys_read (follow Tilde) segment_at q.behind rest q.others q.are)

-- a literal begins with a segment
pub literal_begins : {ts : List Lexeme} {v : List ℕ} → IsLiteral ts v → (w : List ℕ) × (us : List Lexeme) × (ts ≡ segment w ∷ us)
literal_begins (grammar.one_segment {w = w} e) = (w, [], e)
literal_begins (grammar.more_segments {a = a} {w = w} p e f) = (w, sign Tilde ∷ a, e)

-- ---- parameters

pub parameter_read : (x : Lexeme) (w v : List ℕ) (a rest : List Lexeme) → word_of x ≡ Some w → literal_at (a ++ rest) ≡ Ok (v, rest)
    → parameter_at (x ∷ sign Equal ∷ (a ++ rest)) ≡ Ok ((w, v), rest)
unfolding parameter_at after
parameter_read x w v a rest is value = rw (word_read x w (sign Equal ∷ (a ++ rest)) is, value) refl

parameter_alone : StandsAlone parameter_at
unfolding parameter_at word_at
parameter_alone us x e = absurd cc

parameter_fronts : {note : List Lexeme} → MayBeAnnotation note → (x : Lexeme) (w : List ℕ) (r : List Lexeme) → word_of x ≡ Some w
    → parameter_front (note ++ x ∷ r) ≡ Some (note ++ x ∷ r)
parameter_fronts (grammar.without_annotation e) x w r is = rw e (word_fronts x w r is)
parameter_fronts (grammar.with_annotation p e) x w r is = rw e refl

annotation_no_tilde : {note : List Lexeme} → MayBeAnnotation note → (x : Lexeme) (w : List ℕ) (r : List Lexeme) → word_of x ≡ Some w
    → follow Tilde (note ++ x ∷ r) ≡ None
annotation_no_tilde (grammar.without_annotation e) x w r is = rw e (word_no_sign Tilde x w r is)
annotation_no_tilde (grammar.with_annotation p e) x w r is = rw e refl

no_tilde : {b : List Lexeme} {ps : List (List ℕ × List ℕ)} → AreParameters b ps → (r : List Lexeme) → follow Tilde (b ++ sign CloseBrace ∷ r) ≡ None
no_tilde (grammar.no_parameters e) r = rw e refl
no_tilde (grammar.and_parameter {n = note} {a = a} {b = b} {w = w} x may is p q e) r =
    let behind = (a ++ b) ++ sign CloseBrace ∷ r in
    rw (e, append_assoc note (x ∷ sign Equal ∷ (a ++ b)) (sign CloseBrace ∷ r)) (annotation_no_tilde may x w (sign Equal ∷ behind) is)

parameters_more : {note : List Lexeme} (x : Lexeme) (w v : List ℕ) (ts a b rest end : List Lexeme) (ps : List (List ℕ × List ℕ)) → MayBeAnnotation note
    → word_of x ≡ Some w → ts ≡ note ++ x ∷ sign Equal ∷ (a ++ b) → literal_at (a ++ (b ++ rest)) ≡ Ok (v, b ++ rest)
    → Manys parameter_front annotated_parameter_at (b ++ rest) ps end → Manys parameter_front annotated_parameter_at (ts ++ rest) ((w, v) ∷ ps) end
unfolding annotated_parameter_at
parameters_more {note} x w v ts a b rest end ps may is e value others =
    let behind = x ∷ sign Equal ∷ (a ++ (b ++ rest)) in
    let parts : ts ++ rest ≡ note ++ behind = ap (λ (ts : List Lexeme). ts ++ rest) e ∙ append_assoc note (x ∷ sign Equal ∷ (a ++ b)) rest
    ∙ ap (λ (r : List Lexeme). note ++ x ∷ sign Equal ∷ r) (append_assoc a b rest) in
    let shorter : length (b ++ rest) < length (note ++ behind) = omega (arith, length-append note behind, length-append a (b ++ rest)) in
    subst (λ (us : List Lexeme). Manys parameter_front annotated_parameter_at us ((w, v) ∷ ps) end) (sym parts)
    (manys_more parameter_front annotated_parameter_at (note ++ behind) (note ++ behind) (b ++ rest) end (w, v) ps
    (parameter_fronts may x w (sign Equal ∷ (a ++ (b ++ rest))) is)
    (annotated_behind parameter_at parameter_alone may behind ((w, v), b ++ rest) (parameter_read x w v a (b ++ rest) is value)) shorter others)

parameters_are : {ts : List Lexeme} {ps : List (List ℕ × List ℕ)} → AreParameters ts ps → (r : List Lexeme)
    → Manys parameter_front annotated_parameter_at (ts ++ sign CloseBrace ∷ r) ps (sign CloseBrace ∷ r)
parameters_are {ts} (grammar.no_parameters e) r =
    subst (λ (ts : List Lexeme). Manys parameter_front annotated_parameter_at (ts ++ sign CloseBrace ∷ r) [] (sign CloseBrace ∷ r)) (sym e)
    (manys_end parameter_front annotated_parameter_at (sign CloseBrace ∷ r) refl)
parameters_are {ts} (grammar.and_parameter {ps = ps} {a = a} {b = b} {w = w} {v = v} x may is p q e) r =
    parameters_more x w v ts a b (sign CloseBrace ∷ r) (sign CloseBrace ∷ r) ps may is e (literal_complete p (b ++ sign CloseBrace ∷ r) (no_tilde q r))
    (parameters_are q r)

-- the text in braces
pub braces_read : {A : Type 0} (read : List Lexeme → Outcome A) (a rest : List Lexeme) (x : A) → read (a ++ (sign CloseBrace ∷ rest)) ≡ Ok
    (x, sign CloseBrace ∷ rest) → in_braces_at read ((a ++ sign CloseBrace ∷ []) ++ rest) ≡ Ok (x, rest)
unfolding in_braces_at after
braces_read read a rest x body = rw (append_assoc a (sign CloseBrace ∷ []) rest, body) refl

parameters_none : (rest : List Lexeme) → follow OpenBrace rest ≡ None → parameters_at rest ≡ Ok ([], rest)
unfolding parameters_at
parameters_none rest is = rw is refl

parameters_some : (a rest : List Lexeme) (ps : List (List ℕ × List ℕ)) → in_braces_at (many parameter_front annotated_parameter_at) (a ++ rest) ≡ Ok (ps, rest)
    → parameters_at (sign OpenBrace ∷ (a ++ rest)) ≡ Ok (ps, rest)
unfolding parameters_at
parameters_some a rest ps e = e

pub parameters_complete : {ts : List Lexeme} {ps : List (List ℕ × List ℕ)} → MayBeParameters ts ps → (rest : List Lexeme) → follow OpenBrace rest ≡ None
    → parameters_at (ts ++ rest) ≡ Ok (ps, rest)
parameters_complete (grammar.without_parameters e) rest is = rw e (parameters_none rest is)
parameters_complete (grammar.with_parameters {ps = ps} {a = a} p e) rest is =
    rw e (parameters_some (a ++ sign CloseBrace ∷ []) rest ps
    (braces_read (many parameter_front annotated_parameter_at) a rest ps
    (manys_read parameter_front annotated_parameter_at (a ++ sign CloseBrace ∷ rest) (sign CloseBrace ∷ rest) ps (parameters_are p rest))))

-- ---- mentions

inherit_none : (rest : List Lexeme) → follow_keyword keywords.Inherit rest ≡ None → inherit_at rest ≡ Ok (None, rest)
unfolding inherit_at
inherit_none rest is = rw is refl

inherit_some : (s : Spelling) (x : Lexeme) (w : List ℕ) (rest : List Lexeme) → word_of x ≡ Some w
    → inherit_at (keyword keywords.Inherit s ∷ sign Equal ∷ x ∷ rest) ≡ Ok (Some w, rest)
unfolding inherit_at word_after_equal after
inherit_some s x w rest is = rw (word_read x w rest is) refl

inherit_complete : {ts : List Lexeme} {p : Option (List ℕ)} → MayInherit ts p → (rest : List Lexeme) → follow_keyword keywords.Inherit rest ≡ None
    → inherit_at (ts ++ rest) ≡ Ok (p, rest)
inherit_complete (grammar.without_inherit e) rest is = rw e (inherit_none rest is)
inherit_complete (grammar.with_inherit {w = w} {x = x} {s = s} w-is e) rest is = rw e (inherit_some s x w rest w-is)

inherit_no_tilde : {ts : List Lexeme} {p : Option (List ℕ)} → MayInherit ts p → (rest : List Lexeme) → follow Tilde rest ≡ None
    → follow Tilde (ts ++ rest) ≡ None
inherit_no_tilde (grammar.without_inherit e) rest is = rw e is
inherit_no_tilde (grammar.with_inherit w-is e) rest is = rw e refl

mention_read : (number : ℕ) (a b rest : List Lexeme) (v : List ℕ) (p : Option (List ℕ)) → literal_at (a ++ (b ++ rest)) ≡ Ok (v, b ++ rest)
    → inherit_at (b ++ rest) ≡ Ok (p, rest) → mention_at number (a ++ (b ++ rest)) ≡ Ok (record { href = v; inherit = p; token = number }, rest)
unfolding mention_at
mention_read number a b rest v p href prefix = rw (href, prefix) refl

pub mention_complete : {a b : List Lexeme} {v : List ℕ} {p : Option (List ℕ)} → (number : ℕ) → IsLiteral a v → MayInherit b p → (rest : List Lexeme)
    → follow Tilde rest ≡ None → follow_keyword keywords.Inherit rest ≡ None → mention_at number (a ++ (b ++ rest)) ≡ Ok
    (record { href = v; inherit = p; token = number }, rest)
mention_complete {a} {b} {v} {p} number q r rest tilde inherits =
    mention_read number a b rest v p (literal_complete q (b ++ rest) (inherit_no_tilde r rest tilde)) (inherit_complete r rest inherits)
