-- Documents in PYX: the tree of some lines, and lines that break a clause.
use Rattle.std.proofs.Common.{◌≡◌, ◌≢◌, ℕ, Bool, true, false, not, List, [], ◌∷◌, ◌++◌, length, codes, Option, Some, None, ◌∙◌, inl, inr, refl, sym, ap}
use Rattle.std.proofs.Common.{arith, true≢false}
use Rattle.std.specs.Prelude.{◌<◌, ◌⊎◌, nat_le, ◌==◌, All}
use Rattle.std.specs.List.{list_all, AllByRecursion}
use Rattle.std.specs.Str.{is_utf8, chars}
use Rattle.std.proofs.lemmas.Bool.{and_parts, leb-true}
use Rattle.std.proofs.lemmas.List.Elements.{All-from_recursion, All-cons, All-nil}
use Rattle.std.proofs.lemmas.Str.{IsUtf8-from_is_utf8}
use Rattle.rng_model.specs.names.Lists.{HasTwice, at_first, here, later, there}
use Rattle.rng_model.specs.names.Names.{is_ncname, is_xml_char, xml_uri}
use Rattle.rng_model.specs.matching.Document.{Attribute, Distinct, none, one_more, another_name, nothing_named}
use Rattle.rng_model.specs.documents.Lines.{Line, lines, line_limit, HasKind, nothing}
use Rattle.rng_model.specs.documents.PyxLines.{IsNcnameText, IsName, alone, prefixed, StandsFor, at_end, itself, Said, QName, start, attribute, text, end}
use Rattle.rng_model.specs.documents.PyxLines.{instruction}
use Rattle.rng_model.specs.documents.PyxLines.{Says, says_start, says_attribute, says_text, says_end, says_instruction, IsGoodLine, no_lines}
use Rattle.rng_model.specs.documents.PyxLines.{line_and}
use Rattle.rng_model.specs.documents.PyxNamespaces.{none_written, written_and, WrittenAttribute, nothing as parted_nothing, declaration, other, Declares}
use Rattle.rng_model.specs.documents.PyxNamespaces.{default_namespace}
use Rattle.rng_model.specs.documents.PyxNamespaces.{prefix_declared, DeclaresNothing, NamespaceDeclaration, IsForbidden, of_xmlns_uri, of_xmlns, of_nothing}
use Rattle.rng_model.specs.documents.PyxNamespaces.{xml_as_another}
use Rattle.rng_model.specs.documents.PyxNamespaces.{another_as_xml, xmlns_uri, xmlns, HasNamespace, declared_here, xml_beforehand, no_default}
use Rattle.rng_model.specs.documents.PyxNamespaces.{declared_outside, HasNoNamespace}
use Rattle.rng_model.specs.documents.PyxNamespaces.{element_name, with_prefix, none_left, expanded_and}
use Rattle.rng_model.specs.documents.PyxClauses.{BreaksHere, too_long, within as within_limit}
use Rattle.rng_model.specs.documents.PyxClauses.{BeginsOtherwise, none_open, SaysTag, no_tags, EndsWithTag, element_prefix, namespaces, expanded_twice}
use Rattle.rng_model.specs.documents.PyxClauses.{repeated_name}
use Rattle.rng_model.specs.documents.PyxClauses.{Breaks, at_line}
use Rattle.rng_model.specs.documents.PyxTrees as trees
use Rattle.rng_model.specs.documents.PyxTrees.{text_at, element_at, none_placed, placed_and, no_run, IsPyxDocument}

-- ---- what a test says of each member

each_of : (p : ℕ → Bool) (xs : List ℕ) → list_all p xs ≡ true → AllByRecursion (λ c. p c ≡ true) xs
each_of p [] e = tt
each_of p (x ∷ xs) e = let both = and_parts (p x) (list_all p xs) e in (both.0, each_of p xs both.1)

is_all : (p : ℕ → Bool) (xs : List ℕ) → list_all p xs ≡ true → All (λ c. p c ≡ true) xs
is_all p xs e = All-from_recursion (λ c. p c ≡ true) xs (each_of p xs e)

-- a line that passes these tests
pub good : (bytes : List ℕ) {said : Said} → nat_le (length bytes) line_limit ≡ true → is_utf8 bytes ≡ true → list_all is_xml_char (chars bytes) ≡ true →
    Says bytes said → IsGoodLine (record { bytes = bytes; ended = true }) said
good bytes within utf8 characters says = record {
  ended = refl;
  within = leb-true (length bytes) line_limit within;
  utf8 = IsUtf8-from_is_utf8 bytes utf8;
  characters = is_all is_xml_char (chars bytes) characters;
  says = says;
}

pub is_name : (written : List ℕ) → is_utf8 written ≡ true → is_ncname (chars written) ≡ true → IsNcnameText written
is_name written utf8 ncname = record { utf8 = IsUtf8-from_is_utf8 written utf8; ncname = ncname }

-- a text without a backslash means itself
abbrev is_plain : ℕ → Bool
is_plain c = not (c == 92)

no_backslash : (c : ℕ) → is_plain c ≡ true → c ≢ 92
no_backslash c e same = let bad : false ≡ true = rw same at e in true≢false (sym bad)

plain_text : (cs : List ℕ) → list_all is_plain cs ≡ true → StandsFor cs cs
plain_text [] e = at_end
plain_text (c ∷ cs) e = let both = and_parts (is_plain c) (list_all is_plain cs) e in itself (no_backslash c both.0) (plain_text cs both.1)

-- ---- a text across an instruction

abbrev across : List ℕ
across = codes "(a" ++ 10 ∷ (codes "-x" ++ 10 ∷ (codes "?z" ++ 10 ∷ (codes "-y" ++ 10 ∷ (codes ")a" ++ 10 ∷ []))))

abbrev name_a : QName
name_a = record { prefix = None; local = codes "a" }

pub a_is_a_name : IsName (codes "a") name_a
unfolding chars is_utf8 lib.Utf8.encode
a_is_a_name = alone (is_name (codes "a") refl refl)

nothing_repeats : {A : Type 0} → HasTwice {A = A} [] → ⊥
nothing_repeats r = elim r [ ]

across_is : IsPyxDocument across (element_at 2 (record { ns = []; local = codes "a" }) [] (placed_and (text_at 5 (codes "xy")) none_placed) 5)
unfolding lines chars is_utf8 lib.Utf8.encode
across_is = record {
  before = [];
  root = start name_a ∷ text (codes "x") ∷ instruction ∷ text (codes "y") ∷ end name_a ∷ [];
  behind = [];
  good = line_and (good (codes "(a") refl refl refl (says_start a_is_a_name))
      (line_and (good (codes "-x") refl refl refl (says_text (plain_text (codes "x") refl)))
      (line_and (good (codes "?z") refl refl refl says_instruction) (line_and (good (codes "-y") refl refl refl (says_text (plain_text (codes "y") refl)))
      (line_and (good (codes ")a") refl refl refl (says_end a_is_a_name)) no_lines))));
  instructions_before = trees.no_instructions;
  is_root = trees.element {attributes = []} {content = text (codes "x") ∷ instruction ∷ text (codes "y") ∷ []} (record {
    written = [];
    are_written = none_written;
    within = omega arith;
    once = nothing_repeats;
    declarations = [];
    others = [];
    are_parted = parted_nothing;
    allowed = All-nil _;
    scope_is = refl;
    is_named = element_name (declared_outside (All-nil _) no_default);
    are_expanded = none_left;
    distinct = none;
  }) (trees.last_run (trees.text_and (trees.instruction_and (trees.text_and no_run refl)) refl) (omega arith) refl) refl refl;
  instructions_behind = trees.no_instructions;
}

-- ---- a declaration after the attribute that needs it

abbrev late : List ℕ
late = codes "(p:a" ++ 10 ∷ (codes "Ap:x 1" ++ 10 ∷ (codes "Axmlns:p u" ++ 10 ∷ (codes ")p:a" ++ 10 ∷ [])))

abbrev with_p : List ℕ → QName
with_p local = record { prefix = Some (codes "p"); local = local }

abbrev declares_p : QName
declares_p = record { prefix = Some (codes "xmlns"); local = codes "p" }

pa_is_a_name : IsName (codes "p:a") (with_p (codes "a"))
unfolding chars is_utf8 lib.Utf8.encode
pa_is_a_name = prefixed (is_name (codes "p") refl refl) (is_name (codes "a") refl refl) refl

px_is_a_name : IsName (codes "p:x") (with_p (codes "x"))
unfolding chars is_utf8 lib.Utf8.encode
px_is_a_name = prefixed (is_name (codes "p") refl refl) (is_name (codes "x") refl refl) refl

declares_p_is_a_name : IsName (codes "xmlns:p") declares_p
unfolding chars is_utf8 lib.Utf8.encode
declares_p_is_a_name = prefixed (is_name (codes "xmlns") refl refl) (is_name (codes "p") refl refl) refl

abbrev written_px : WrittenAttribute
written_px = record { name = with_p (codes "x"); content = codes "1" }

abbrev written_declaration : WrittenAttribute
written_declaration = record { name = declares_p; content = codes "u" }

abbrev prefix_size : Option (List ℕ) → ℕ
prefix_size None = 0
prefix_size (Some p) = length p

-- a name that declares a namespace has a prefix of five bytes, or has no prefix and a local name of five
declaring_size : {name : QName} {p : Option (List ℕ)} → Declares name p → (prefix_size name.prefix ≡ 5) ⊎ (length name.local ≡ 5)
declaring_size default_namespace = inr refl
declaring_size prefix_declared = inl refl

px_declares_nothing : DeclaresNothing (with_p (codes "x"))
px_declares_nothing p declares = elim (declaring_size declares) [
  | inl e ↦ absurd (omega (arith, e))
  | inr e ↦ absurd (omega (arith, e))
]

p_is_declared : HasNamespace ((record { prefix = Some (codes "p"); uri = codes "u" } ∷ []) ∷ []) (Some (codes "p")) (codes "u")
p_is_declared = declared_here here

u_is_allowed : IsForbidden (record { prefix = Some (codes "p"); uri = codes "u" }) → ⊥
u_is_allowed forbidden = refuses forbidden refl refl where
  refuses : {d : NamespaceDeclaration} → IsForbidden d → d.prefix ≡ Some (codes "p") → d.uri ≡ codes "u" → ⊥
  refuses (of_xmlns_uri e) p u = let bad : length (codes "u") ≡ length xmlns_uri = ap length (sym u ∙ e) in absurd (omega (arith, bad))
  refuses (of_xmlns e) p u = let bad : prefix_size (Some (codes "p")) ≡ prefix_size (Some xmlns) = ap prefix_size (sym p ∙ e) in absurd (omega (arith, bad))
  refuses (of_nothing q e) p u = let bad : length (codes "u") ≡ 0 = ap length (sym u ∙ e) in absurd (omega (arith, bad))
  refuses (xml_as_another e n) p u =
      let bad : prefix_size (Some (codes "p")) ≡ prefix_size (Some (codes "xml")) = ap prefix_size (sym p ∙ e) in absurd (omega (arith, bad))
  refuses (another_as_xml n e) p u = let bad : length (codes "u") ≡ length xml_uri = ap length (sym u ∙ e) in absurd (omega (arith, bad))

two_names : HasTwice (with_p (codes "x") ∷ declares_p ∷ []) → ⊥
two_names (at_first (there none_of_these)) = elim none_of_these [ ]
two_names (later (at_first none_of_these)) = elim none_of_these [ ]
two_names (later (later none_left_over)) = elim none_left_over [ ]

late_is : IsPyxDocument late (element_at 4 (record { ns = codes "u"; local = codes "a" })
    (record { name = record { ns = codes "u"; local = codes "x" }; content = codes "1" } ∷ []) none_placed 4)
unfolding lines chars is_utf8 lib.Utf8.encode
late_is = record {
  before = [];
  root = start (with_p (codes "a")) ∷ attribute (with_p (codes "x")) (codes "1") ∷ attribute declares_p (codes "u") ∷ end (with_p (codes "a")) ∷ [];
  behind = [];
  good = line_and (good (codes "(p:a") refl refl refl (says_start pa_is_a_name))
      (line_and (good (codes "Ap:x 1") refl refl refl (says_attribute px_is_a_name (plain_text (codes "1") refl) refl))
      (line_and (good (codes "Axmlns:p u") refl refl refl (says_attribute declares_p_is_a_name (plain_text (codes "u") refl) refl))
      (line_and (good (codes ")p:a") refl refl refl (says_end pa_is_a_name)) no_lines)));
  instructions_before = trees.no_instructions;
  is_root = trees.element {attributes = attribute (with_p (codes "x")) (codes "1") ∷ attribute declares_p (codes "u") ∷ []} {content = []} (record {
    written = written_px ∷ written_declaration ∷ [];
    are_written = written_and (written_and none_written);
    within = omega arith;
    once = two_names;
    declarations = record { prefix = Some (codes "p"); uri = codes "u" } ∷ [];
    others = written_px ∷ [];
    are_parted = other px_declares_nothing (declaration prefix_declared parted_nothing);
    allowed = All-cons (λ d. IsForbidden d → ⊥) (record { prefix = Some (codes "p"); uri = codes "u" }) [] u_is_allowed (All-nil _);
    scope_is = refl;
    is_named = element_name p_is_declared;
    are_expanded = expanded_and (with_prefix p_is_declared) none_left;
    distinct = one_more nothing_named none;
  }) (trees.last_run no_run (omega arith) refl) refl refl;
  instructions_behind = trees.no_instructions;
}

-- ---- a prefix that is not declared: P11 at the last line of the tag

abbrev pub whole : List ℕ → Line
whole bytes = record { bytes = bytes; ended = true }

abbrev undeclared : List Line
undeclared = whole (codes "(p:a") ∷ whole (codes "Ax 1") ∷ whole (codes ")p:a") ∷ []

abbrev name_x : QName
name_x = record { prefix = None; local = codes "x" }

x_is_a_name : IsName (codes "x") name_x
unfolding chars is_utf8 lib.Utf8.encode
x_is_a_name = alone (is_name (codes "x") refl refl)

x_declares_nothing : DeclaresNothing name_x
x_declares_nothing p declares = elim (declaring_size declares) [
  | inl e ↦ absurd (omega (arith, e))
  | inr e ↦ absurd (omega (arith, e))
]

p_is_undeclared : HasNoNamespace ([] ∷ []) (codes "p")
p_is_undeclared uri found = refuses found refl where
  beforehand : {q : Option (List ℕ)} {uri : List ℕ} → HasNamespace [] q uri → q ≡ Some (codes "p") → ⊥
  beforehand xml_beforehand e = let bad : prefix_size (Some (codes "xml")) ≡ prefix_size (Some (codes "p")) = ap prefix_size e in absurd (omega (arith, bad))
  beforehand no_default e = cc

  refuses : {q : Option (List ℕ)} {uri : List ℕ} → HasNamespace ([] ∷ []) q uri → q ≡ Some (codes "p") → ⊥
  refuses (declared_here among) e = elim among [ ]
  refuses (declared_outside left found) e = beforehand found e

abbrev pub first_of : List ℕ → ℕ
first_of [] = 0
first_of (b ∷ bs) = b

-- a line of another kind, followed by no other lines
begins_otherwise : (k : ℕ) (b : ℕ) (bs : List ℕ) (rest : List Line) → (b ≡ k → ⊥) → BeginsOtherwise k (whole (b ∷ bs) ∷ rest)
begins_otherwise k b bs rest differs l more parts kind =
    let same : whole (b ∷ bs) ≡ l = cc in
    let bytes : b ∷ bs ≡ k ∷ kind.0 = ap (λ m. m.bytes) same ∙ kind.1 in
    differs (ap first_of bytes)

says_the_tag : SaysTag (record { first = whole (codes "(p:a"); attributes = whole (codes "Ax 1") ∷ [] }) (with_p (codes "a"))
    (record { name = name_x; content = codes "1" } ∷ [])
unfolding lines chars is_utf8 lib.Utf8.encode
says_the_tag = record {
  first = good (codes "(p:a") refl refl refl (says_start pa_is_a_name);
  said = attribute name_x (codes "1") ∷ [];
  attributes = line_and (good (codes "Ax 1") refl refl refl (says_attribute x_is_a_name (plain_text (codes "1") refl) refl)) no_lines;
  are_written = written_and none_written;
}

ends_with_the_tag : EndsWithTag (whole (codes "(p:a") ∷ whole (codes "Ax 1") ∷ []) [] (with_p (codes "a")) (record { name = name_x; content = codes "1" } ∷ [])
ends_with_the_tag = record {
  ends = record {
    front = [];
    tag = whole (codes "(p:a");
    others = whole (codes "Ax 1") ∷ [];
    parts = refl;
    opens = (codes "p:a", refl);
    each = All-cons (HasKind 65) (whole (codes "Ax 1")) [] (codes "x 1", refl) (All-nil _);
  };
  says = says_the_tag;
  around = [];
  are_open = none_open nothing;
  scope = no_tags;
}

undeclared_breaks : Breaks undeclared (record { clause = 11; line = 2 })
undeclared_breaks = at_line {before = whole (codes "(p:a") ∷ []} {behind = whole (codes ")p:a") ∷ []} (whole (codes "Ax 1")) refl refl
    (within_limit (leb-true (length (codes "Ax 1")) line_limit refl)
    (namespaces ends_with_the_tag (begins_otherwise 65 41 (codes "p:a") [] (λ e. absurd (omega (arith, e))))
    (element_prefix (other x_declares_nothing parted_nothing) refl p_is_undeclared)))

-- ---- two attributes with one expanded name: P12 at the last line of the tag

abbrev one_name_twice : List Line
one_name_twice = whole (codes "(a") ∷ whole (codes "Axmlns:p u") ∷ whole (codes "Axmlns:q u") ∷ whole (codes "Ap:x 1") ∷ whole (codes "Aq:x 2") ∷
    whole (codes ")a") ∷ []

abbrev with_q : List ℕ → QName
with_q local = record { prefix = Some (codes "q"); local = local }

abbrev declares_q : QName
declares_q = record { prefix = Some (codes "xmlns"); local = codes "q" }

qx_is_a_name : IsName (codes "q:x") (with_q (codes "x"))
unfolding chars is_utf8 lib.Utf8.encode
qx_is_a_name = prefixed (is_name (codes "q") refl refl) (is_name (codes "x") refl refl) refl

declares_q_is_a_name : IsName (codes "xmlns:q") declares_q
unfolding chars is_utf8 lib.Utf8.encode
declares_q_is_a_name = prefixed (is_name (codes "xmlns") refl refl) (is_name (codes "q") refl refl) refl

qx_declares_nothing : DeclaresNothing (with_q (codes "x"))
qx_declares_nothing p declares = elim (declaring_size declares) [
  | inl e ↦ absurd (omega (arith, e))
  | inr e ↦ absurd (omega (arith, e))
]

abbrev four_written : List WrittenAttribute
four_written = written_declaration ∷ record { name = declares_q; content = codes "u" } ∷ written_px ∷
    record { name = with_q (codes "x"); content = codes "2" } ∷ []

says_four : SaysTag (record {
  first = whole (codes "(a");
  attributes = whole (codes "Axmlns:p u") ∷ whole (codes "Axmlns:q u") ∷ whole (codes "Ap:x 1") ∷ whole (codes "Aq:x 2") ∷ [];
}) name_a four_written
unfolding lines chars is_utf8 lib.Utf8.encode
says_four = record {
  first = good (codes "(a") refl refl refl (says_start a_is_a_name);
  said = attribute declares_p (codes "u") ∷ attribute declares_q (codes "u") ∷ attribute (with_p (codes "x")) (codes "1") ∷
      attribute (with_q (codes "x")) (codes "2") ∷ [];
  attributes = line_and (good (codes "Axmlns:p u") refl refl refl (says_attribute declares_p_is_a_name (plain_text (codes "u") refl) refl))
      (line_and (good (codes "Axmlns:q u") refl refl refl (says_attribute declares_q_is_a_name (plain_text (codes "u") refl) refl))
      (line_and (good (codes "Ap:x 1") refl refl refl (says_attribute px_is_a_name (plain_text (codes "1") refl) refl))
      (line_and (good (codes "Aq:x 2") refl refl refl (says_attribute qx_is_a_name (plain_text (codes "2") refl) refl)) no_lines)));
  are_written = written_and (written_and (written_and (written_and none_written)));
}

is_an_attribute : (bytes rest : List ℕ) → bytes ≡ 65 ∷ rest → (ls : List Line) → All (HasKind 65) ls → All (HasKind 65) (whole bytes ∷ ls)
is_an_attribute bytes rest e ls more = All-cons (HasKind 65) (whole bytes) ls (rest, e) more

ends_with_four : EndsWithTag (whole (codes "(a") ∷ whole (codes "Axmlns:p u") ∷ whole (codes "Axmlns:q u") ∷ whole (codes "Ap:x 1") ∷
    whole (codes "Aq:x 2") ∷ []) [] name_a four_written
ends_with_four = record {
  ends = record {
    front = [];
    tag = whole (codes "(a");
    others = whole (codes "Axmlns:p u") ∷ whole (codes "Axmlns:q u") ∷ whole (codes "Ap:x 1") ∷ whole (codes "Aq:x 2") ∷ [];
    parts = refl;
    opens = (codes "a", refl);
    each =
        let q = is_an_attribute (codes "Aq:x 2") (codes "q:x 2") refl [] (All-nil _) in
        let p = is_an_attribute (codes "Ap:x 1") (codes "p:x 1") refl (whole (codes "Aq:x 2") ∷ []) q in
        let declared = is_an_attribute (codes "Axmlns:q u") (codes "xmlns:q u") refl (whole (codes "Ap:x 1") ∷ whole (codes "Aq:x 2") ∷ []) p in
        is_an_attribute (codes "Axmlns:p u") (codes "xmlns:p u") refl
        (whole (codes "Axmlns:q u") ∷ whole (codes "Ap:x 1") ∷ whole (codes "Aq:x 2") ∷ []) declared;
  };
  says = says_four;
  around = [];
  are_open = none_open nothing;
  scope = no_tags;
}

not_distinct : {a b : Attribute} {more : List Attribute} → Distinct (a ∷ b ∷ more) → b.name ≡ a.name → ⊥
not_distinct (one_more (another_name differs none_named) rest) e = differs e

one_name_twice_breaks : Breaks one_name_twice (record { clause = 12; line = 5 })
one_name_twice_breaks = at_line {before = whole (codes "(a") ∷ whole (codes "Axmlns:p u") ∷ whole (codes "Axmlns:q u") ∷ whole (codes "Ap:x 1") ∷ []}
    {behind = whole (codes ")a") ∷ []} (whole (codes "Aq:x 2")) refl refl
    (within_limit (leb-true (length (codes "Aq:x 2")) line_limit refl)
    (repeated_name ends_with_four (begins_otherwise 65 41 (codes "a") [] (λ e. absurd (omega (arith, e))))
    (expanded_twice (declaration prefix_declared (declaration prefix_declared (other px_declares_nothing (other qx_declares_nothing parted_nothing))))
    (expanded_and (with_prefix (declared_here here)) (expanded_and (with_prefix (declared_here (there here))) none_left))
    (λ distinct. not_distinct distinct refl))))

-- ---- a line that is too long breaks only P10

too_long_breaks_one : {before behind : List Line} {l : Line} {clause : ℕ} → line_limit < length l.bytes → BreaksHere before l behind clause → clause ≡ 10
too_long_breaks_one long (too_long more) = refl
too_long_breaks_one long (within_limit short broken) = absurd (omega (arith, long, short))
