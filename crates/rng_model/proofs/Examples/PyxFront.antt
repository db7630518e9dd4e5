-- The line `(a` breaks only P13: more lines may make it a document.
use Rattle.std.proofs.Common.{◌≡◌, ℕ, suc, List, [], ◌∷◌, ◌++◌, length, codes, None, refl}
use Rattle.std.proofs.Common.{sym, ap, subst, arith, ◌∙◌}
use Rattle.std.proofs.lemmas.List.{length-append}
use Rattle.std.specs.Str.{is_utf8, chars}
use Rattle.rng_model.specs.names.Lists.{Among}
use Rattle.rng_model.specs.matching.Document.{Attribute, Distinct, none}
use Rattle.rng_model.specs.documents.Lines.{Line, HasKind}
use Rattle.rng_model.specs.documents.PyxLines as lines
use Rattle.rng_model.specs.documents.PyxLines.{QName, IsName, Said, start, says_start, Says, IsGoodLine, AreGoodLines, BreaksAlone}
use Rattle.rng_model.specs.documents.PyxNamespaces.{WrittenAttribute, AreWritten, none_written, AreParted, NamespaceDeclaration, NamespaceScope, AreExpanded}
use Rattle.rng_model.specs.documents.PyxNamespaces.{none_left}
use Rattle.rng_model.specs.documents.PyxNamespaces as namespaces
use Rattle.rng_model.specs.documents.PyxTrees.{IsRun, no_run}
use Rattle.rng_model.specs.documents.PyxTrees as trees
use Rattle.rng_model.specs.documents.PyxClauses as clauses
use Rattle.rng_model.specs.documents.PyxClauses.{BreaksBetween, BreaksHere, BreaksTagNamespaces, RepeatsName, EndsWithTag, AreOpenTags, Tag}
use Rattle.rng_model.specs.documents.Documents.{IsFront}
use Rattle.rng_model.proofs.Examples.Pyx.{whole, good, a_is_a_name, first_of}

abbrev the_line : Line
the_line = whole (codes "(a")

says_a : IsGoodLine the_line (start (record { prefix = None; local = codes "a" }))
unfolding chars is_utf8 lib.Utf8.encode
says_a = good (codes "(a") refl refl refl (says_start a_is_a_name)

-- its first byte is the one of a start
other_kind : {k : ℕ} {rest : List ℕ} → codes "(a" ≡ k ∷ rest → k ≡ 40
other_kind e = sym (ap first_of e)

no_kind : (k : ℕ) → ¬ (k ≡ 40) → ¬ (HasKind k the_line)
no_kind k differs kind = differs (other_kind kind.1)

name_behind : {rest : List ℕ} → codes "(a" ≡ 40 ∷ rest → rest ≡ codes "a"
name_behind e = cc

breaks_nothing_alone : {clause : ℕ} → ¬ (BreaksAlone the_line clause)
breaks_nothing_alone (lines.unended e) = cc
breaks_nothing_alone (lines.no_utf8 f) = f says_a.utf8
breaks_nothing_alone (lines.no_xml_char u f) = f says_a.characters
breaks_nothing_alone (lines.no_kind k) = k.no_start (codes "a", refl)
breaks_nothing_alone (lines.bad_text e f) = let k = other_kind e in omega (arith, k)
breaks_nothing_alone (lines.bad_value e c f) = let k = other_kind e in omega (arith, k)
breaks_nothing_alone (lines.bad_start_name e f) =
    f (record { prefix = None; local = codes "a" }) (subst (λ w. IsName w (record { prefix = None; local = codes "a" })) (sym (name_behind e)) a_is_a_name)
breaks_nothing_alone (lines.bad_end_name e f) = let k = other_kind e in omega (arith, k)
breaks_nothing_alone (lines.bad_attribute_name e c f) = let k = other_kind e in omega (arith, k)
breaks_nothing_alone (lines.no_space e f) = let k = other_kind e in omega (arith, k)

-- ---- the lines around one line

-- one line is split around a line in one way
pub record IsAlone (before behind : List Line) (l m : Line) : Type 0 where
  pub front : before ≡ []
  pub same : m ≡ l
  pub rest : behind ≡ []

cut_about : (l m : Line) (before behind : List Line) → l ∷ [] ≡ before ++ m ∷ behind → IsAlone before behind l m
cut_about l m [] behind e = record { front = refl; same = cc; rest = cc }
cut_about l m (k ∷ ks) behind e =
    let n : 1 ≡ suc (length (ks ++ m ∷ behind)) = ap length e in
    let p = length-append ks (m ∷ behind) in
    absurd (omega (arith, n, p))

nothing_before : (m : Line) (before behind : List Line) → [] ≡ before ++ m ∷ behind → ⊥
nothing_before m [] behind e = cc
nothing_before m (k ∷ ks) behind e = cc

none_is_open : {tag : Tag} {outer : List Tag} → ¬ (AreOpenTags [] (tag ∷ outer))
none_is_open (clauses.one_open {front = front} l o k a b i e) = nothing_before l front _ e

few_are_open : {opened : List Tag} → AreOpenTags [] opened → length opened ≡ 0
few_are_open (clauses.none_open b) = refl
few_are_open (clauses.one_open {front = front} l o k a b i e) = absurd (nothing_before l front _ e)

-- ---- the tag that ends with the line

no_colon : (prefix local : List ℕ) → codes "a" ≡ prefix ++ 58 ∷ local → ⊥
no_colon [] local e = let k : 97 ≡ 58 = ap first_of e in omega (arith, k)
no_colon (c ∷ cs) local e =
    let n : 1 ≡ suc (length (cs ++ 58 ∷ local)) = ap length e in
    let p = length-append cs (58 ∷ local) in
    absurd (omega (arith, n, p))

without_a_prefix : {written : List ℕ} {name : QName} → written ≡ codes "a" → IsName written name → name.prefix ≡ None
without_a_prefix e (lines.alone i) = refl
without_a_prefix e (lines.prefixed {prefix = p} {local = l} i j f) = absurd (no_colon p l (sym e ∙ f))

name_of_tag : {bytes : List ℕ} {name : QName} → bytes ≡ codes "(a" → Says bytes (start name) → name.prefix ≡ None
name_of_tag e (says_start i) = without_a_prefix (name_behind (sym e)) i

nothing_declared : {ds : List NamespaceDeclaration} {others : List WrittenAttribute} → AreParted [] ds others → (ds ≡ []) × (others ≡ [])
nothing_declared namespaces.nothing = (refl, refl)

no_namespace_broken : {outer : NamespaceScope} {name : QName} → name.prefix ≡ None → ¬ (BreaksTagNamespaces outer name [])
no_namespace_broken e (clauses.forbidden p i f) = among_none (nothing_declared p).0 i where
  among_none : {d : NamespaceDeclaration} {ds : List NamespaceDeclaration} → ds ≡ [] → ¬ (Among d ds)
  among_none e i = elim_none (subst (Among _) e i) where
    elim_none : {d : NamespaceDeclaration} → ¬ (Among d [])
    elim_none i = elim i [ ]
no_namespace_broken e (clauses.element_prefix p f u) = cc
no_namespace_broken e (clauses.attribute_prefix p i f u) = among_none (nothing_declared p).1 i where
  among_none : {a : WrittenAttribute} {as_ : List WrittenAttribute} → as_ ≡ [] → ¬ (Among a as_)
  among_none e i = elim_none (subst (Among _) e i) where
    elim_none : {a : WrittenAttribute} → ¬ (Among a [])
    elim_none i = elim i [ ]

no_name_repeated : {outer : NamespaceScope} → ¬ (RepeatsName outer [])
no_name_repeated (clauses.written_twice h) = elim h [ ]
no_name_repeated (clauses.expanded_twice p x d) = d (all_distinct (nothing_declared p).1 x) where
  all_distinct : {scope : NamespaceScope} {others : List WrittenAttribute} {attrs : List Attribute} → others ≡ [] → AreExpanded scope others attrs → Distinct attrs
  all_distinct e none_left = none
  all_distinct e (namespaces.expanded_and n x) = absurd (not_none e) where
    not_none : {a : WrittenAttribute} {as_ : List WrittenAttribute} → a ∷ as_ ≡ [] → ⊥
    not_none e = cc

nothing_written : {said : List Said} {written : List WrittenAttribute} → AreGoodLines [] said → AreWritten said written → written ≡ []
nothing_written lines.no_lines none_written = refl

-- the tag is only this line, and its name has no prefix
module _ {outer : NamespaceScope} {name : QName} {written : List WrittenAttribute} (ends : EndsWithTag (the_line ∷ []) outer name written) where
  parts_of_tag : IsAlone ends.ends.front ends.ends.others the_line ends.ends.tag
  parts_of_tag = cut_about the_line ends.ends.tag ends.ends.front ends.ends.others ends.ends.parts

  no_prefix : name.prefix ≡ None
  no_prefix = name_of_tag (ap (λ l. l.bytes) parts_of_tag.same) ends.says.first.says

  no_attributes : written ≡ []
  no_attributes = nothing_written (subst (λ ls. AreGoodLines ls ends.says.said) parts_of_tag.rest ends.says.attributes) ends.says.are_written

-- ---- texts after the line

no_text_is : {s : Said} {joined : List ℕ} {more : List Said} → IsRun (s ∷ more) joined → Says the_line.bytes s → ⊥
no_text_is (trees.text_and r e) s = elim s [ ]
no_text_is (trees.instruction_and r) s = elim s [ ]

text_length : (front run : List Line) {said : List Said} {joined : List ℕ} → the_line ∷ [] ≡ front ++ run → AreGoodLines run said → IsRun said joined
    → length joined ≡ 0
text_length front run e lines.no_lines no_run = refl
text_length front (l ∷ ls) e (lines.line_and {said = s} g gs) r =
    absurd (no_text_is r (subst (λ m. Says m.bytes s) (cut_about the_line l front ls e).same g.says))

-- ---- the front

breaks_nothing_between : {clause : ℕ} → ¬ (BreaksBetween [] the_line [] clause)
breaks_nothing_between (clauses.alone b) = breaks_nothing_alone b
breaks_nothing_between (clauses.no_tag k f) = no_kind 65 (λ e. omega (arith, e)) k
breaks_nothing_between (clauses.none_to_end k o) = no_kind 41 (λ e. omega (arith, e)) k
breaks_nothing_between (clauses.other_name e o f d) = none_is_open o
breaks_nothing_between (clauses.text_outside k o) = no_kind 45 (λ e. omega (arith, e)) k
breaks_nothing_between (clauses.second_root front rest root k o e h) = nothing_before root front rest e
breaks_nothing_between (clauses.attributes k t m) = no_kind 65 (λ e. omega (arith, e)) k
breaks_nothing_between (clauses.elements k o m) = let n = few_are_open o in omega (arith, n, m)
breaks_nothing_between (clauses.joined_text t m) = let n = text_length t.front t.run t.parts t.good t.is_run in omega (arith, n, m)
breaks_nothing_between (clauses.namespaces t o b) = no_namespace_broken (no_prefix t) (subst (BreaksTagNamespaces _ _) (no_attributes t) b)
breaks_nothing_between (clauses.repeated_name t o b) = no_name_repeated (subst (RepeatsName _) (no_attributes t) b)

breaks_nothing_here : {clause : ℕ} → ¬ (BreaksHere [] the_line [] clause)
breaks_nothing_here (clauses.too_long d) = omega (arith, d)
breaks_nothing_here (clauses.within w b) = breaks_nothing_between b

pub is_front : IsFront (the_line ∷ [])
is_front f (clauses.at_line {before = before} {behind = behind} l e n b) = absurd (moved (cut_about the_line l before behind e) b) where
  moved : {before behind : List Line} {l : Line} {clause : ℕ} → IsAlone before behind the_line l → BreaksHere before l behind clause → ⊥
  moved {behind = behind} {l = l} {clause = clause} a b =
      breaks_nothing_here (subst (λ ls. BreaksHere [] the_line ls clause) a.rest (subst (λ m. BreaksHere [] m behind clause) a.same
      (subst (λ ls. BreaksHere ls l behind clause) a.front b)))
is_front f (clauses.unfinished o) = refl
is_front f (clauses.rootless n) = refl
