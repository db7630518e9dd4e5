-- The state after good lines, in the words of the clauses.
use Rattle.std.proofs.Common.{◌≡◌, ℕ, ◌+◌, ◌≤◌, Bool, true, false, List, [], ◌∷◌, ◌++◌, length, map, Ok, ◌<◌, cond, arith}
use Rattle.std.proofs.Common.{refl, sym, ap, subst, ◌∙◌}
use Rattle.std.proofs.lemmas.List.{length-append}
use Rattle.std.specs.Prelude.{is_some, sum_by}
use Rattle.std.proofs.lemmas.List.Sums.{sum_by_push}
use Rattle.rng_model.specs.names.Lists.{HasTwice}
use Rattle.rng_model.specs.documents.Lines.{Line, attribute_limit, open_limit, text_limit, HasKind, nothing, EndsInTag}
use Rattle.rng_model.specs.documents.PyxLines as said
use Rattle.rng_model.specs.documents.PyxLines.{Said, QName, IsGoodLine, AreGoodLines, no_lines}
use Rattle.rng_model.specs.documents.PyxNamespaces.{WrittenAttribute, AreWritten, none_written, written_and, AreParted, NamespaceScope}
use Rattle.rng_model.specs.documents.PyxClauses as model
use Rattle.rng_model.specs.documents.PyxClauses.{AreOpenTags, none_open, SaysTag, HasScope, no_tags, one_tag}
use Rattle.pyx.specs.plain.TagReader.{Element, tag_read}
use Rattle.pyx.specs.plain.Declarations.{declared_by}
use Rattle.pyx.specs.plain.DocumentReader.{State, Tag, Open, declared_in, with_attribute, nothing_read}
use Rattle.pyx.proofs.Tags.Declarations.{declaration_of}
use Rattle.pyx.proofs.Tags.Namespaces.{scope_in, AllDeclared}
use Rattle.pyx.proofs.Tags.Parts as split
use Rattle.pyx.proofs.Tags.Parts.{IsSplit, split_parted, split_declared}
use Rattle.pyx.proofs.Tags.Unique.{prefixes_of, IsScopeOnce, parted_same}
use Rattle.pyx.proofs.Tags.Answers.{TagTells, tag_tells}
use Rattle.pyx.proofs.Tags.Exact.{read_once}
use Rattle.pyx.proofs.States.StateSteps.{inside, in_tag, begun, open_of}
use Rattle.pyx.proofs.Documents.Complete.{attribute_longer, split_length}
use Rattle.pyx.proofs.States.OpenTags.{marks, kind_not, other_kind, open_other, open_end, open_tag, untagged}
use Rattle.pyx.proofs.States.OpenTags.{tag_begins}
use Rattle.pyx.proofs.States.OpenTags.{tag_grows}
use Rattle.pyx.proofs.States.JoinedText.{said_same, good_same, good_line_more, good_kind, texts, texts_nil, texts_more, has_root, root_in, root_other}

-- ---- the content of a tag is unique

start_same : {a b : QName} → said.start a ≡ said.start b → a ≡ b
start_same e = cc

written_same : {xs : List Said} {as_written others : List WrittenAttribute} → AreWritten xs as_written → AreWritten xs others → as_written ≡ others
written_same none_written none_written = refl
written_same (written_and {name} {content} m) (written_and n) =
    ap (λ (x : List WrittenAttribute). record { name = name; content = content } ∷ x) (written_same m n)

pub says_same : {tag : model.Tag} {a b : QName} {ws vs : List WrittenAttribute} → SaysTag tag a ws → SaysTag tag b vs → (a ≡ b) × (ws ≡ vs)
says_same {ws = ws} {vs = vs} d e = (
  start_same (said_same d.first e.first),
  written_same (subst (λ (x : List Said). AreWritten x ws) (good_same d.attributes e.attributes) d.are_written) e.are_written,
)

pub scope_same : {tags : List model.Tag} {s t : NamespaceScope} → HasScope tags s → HasScope tags t → s ≡ t
scope_same no_tags no_tags = refl
scope_same (one_tag {scope} {ds} s p h) (one_tag {scope = other} {written = ws} {others = os} {ds = es} r q k) =
    join (parted_same p (subst (λ (x : List WrittenAttribute). AreParted x es os) (sym (says_same s r).1) q)).0 (scope_same h k) where
      join : ds ≡ es → scope ≡ other → ds ∷ scope ≡ es ∷ other
      join e f = rw (e, f) refl

pub written_length : {xs : List Said} {ws : List WrittenAttribute} → AreWritten xs ws → length xs ≡ length ws
written_length none_written = refl
written_length (written_and d) = omega (arith, written_length d)

-- ---- open tags and open elements

-- no prefix is declared twice, and the tag has at most this many `A` lines
pub record IsSmall (declared written : List WrittenAttribute) : Type 0 where
  pub once : HasTwice (prefixes_of (map declaration_of declared)) → ⊥
  pub few : length written ≤ attribute_limit

pub data AreMatched : List model.Tag → List Open → Type 0 where
  none_matched : AreMatched [] []
  one_matched : {tag : model.Tag} {tags : List model.Tag} {o : Open} {os : List Open} {written others : List WrittenAttribute} → SaysTag tag o.name written
      → IsSplit written o.declared others → IsSmall o.declared written → AreMatched tags os
      → AreMatched (tag ∷ tags) (o ∷ os)

abbrev pub scope_of : List Open → NamespaceScope
scope_of os = scope_in (declared_in os)

pub matched_scope : {tags : List model.Tag} {os : List Open} → AreMatched tags os → HasScope tags (scope_of os)
matched_scope none_matched = no_tags
matched_scope (one_matched s p n m) = one_tag s (split_parted p) (matched_scope m)

pub matched_declared : {tags : List model.Tag} {os : List Open} → AreMatched tags os → AllDeclared (declared_in os)
matched_declared none_matched = tt
matched_declared (one_matched s p n m) = (split_declared p, matched_declared m)

pub matched_once : {tags : List model.Tag} {os : List Open} → AreMatched tags os → IsScopeOnce (scope_of os)
matched_once none_matched = tt
matched_once (one_matched s p n m) = (n.once, matched_once m)

pub matched_length : {tags : List model.Tag} {os : List Open} → AreMatched tags os → length tags ≡ length os
matched_length none_matched = refl
matched_length (one_matched s p n m) = omega (arith, matched_length m)

-- ---- places

-- after these lines, where the tag at their end is closed
pub record Content (front : List Line) (os : List Open) (w : List ℕ) (n : ℕ) (root : Bool) : Type 0 where
  pub says : List Said
  pub good : AreGoodLines front says
  pub count : n ≡ length front
  pub tags : List model.Tag
  pub are_open : AreOpenTags front tags
  pub matched : AreMatched tags os
  pub joined : texts says [] ≡ w
  pub within : length w ≤ text_limit
  pub rooted : has_root front ≡ root
  pub outside : os ≡ [] → w ≡ []
  pub deep : length os ≤ open_limit

-- inside a tag
pub record Within (front : List Line) (os : List Open) (t : Tag) (n : ℕ) : Type 0 where
  pub says : List Said
  pub good : AreGoodLines front says
  pub count : n ≡ length front
  pub ends : EndsInTag front
  pub tags : List model.Tag
  pub are_open : AreOpenTags ends.front tags
  pub matched : AreMatched tags os
  pub written : List WrittenAttribute
  pub says_tag : SaysTag (record { first = ends.tag; attributes = ends.others }) t.name written
  pub split : IsSplit written t.declared t.others
  pub joined : texts says [] ≡ []
  pub few : length written ≤ attribute_limit
  pub deep : length os < open_limit
  pub bytes : t.bytes ≡ length ends.tag.bytes + sum_by (λ l. length l.bytes) ends.others
  pub rooted : has_root front ≡ true

pub data Place (front : List Line) : State → Type 0 where
  at_content : {os : List Open} {w : List ℕ} {n : ℕ} {root : Bool} → Content front os w n root → (marks front).within ≡ false
      → Place front (inside os w n root)
  at_tag : {os : List Open} {t : Tag} {n : ℕ} → Within front os t n → Place front (in_tag os t n)

root_none : has_root [] ≡ false
unfolding has_root
root_none = refl

pub marks_none : (marks []).within ≡ false
unfolding Rattle.pyx.proofs.States.OpenTags.marked
marks_none = refl

pub content_first : Content [] [] [] 0 false
content_first = record {
  says = [];
  good = no_lines;
  count = refl;
  tags = [];
  are_open = none_open nothing;
  matched = none_matched;
  joined = texts_nil;
  within = omega arith;
  rooted = root_none;
  outside = λ e. refl;
  deep = omega arith;
}

pub place_first : Place [] nothing_read
place_first = at_content content_first marks_none

-- ---- one more line

module _ (front : List Line) (l : Line) where
  abbrev after : List Line
  after = front ++ l ∷ []

  after_length : (n : ℕ) → n ≡ length front → n + 1 ≡ length after
  after_length n e = omega (arith, e, length-append front (l ∷ []))

  plain_kind : (k : ℕ) → HasKind k l → (k ≡ 40 → ⊥) → has_root after ≡ has_root front
  plain_kind k h n = root_other front l (kind_not 40 l (other_kind k 40 l n h))

  pub after_instruction : {os : List Open} {w : List ℕ} {n : ℕ} {root : Bool} → Content front os w n root → IsGoodLine l said.instruction
      → Place after (inside os w (n + 1) root)
  after_instruction c g =
      let h = good_kind g in
      let n40 : HasKind 40 l → ⊥ = other_kind 63 40 l (λ q. absurd (omega (arith, q))) h in
      let n65 : HasKind 65 l → ⊥ = other_kind 63 65 l (λ q. absurd (omega (arith, q))) h in
      at_content (record {
        says = c.says ++ said.instruction ∷ [];
        good = good_line_more c.good g;
        count = after_length _ c.count;
        tags = c.tags;
        are_open = open_other l c.are_open n40 n65 (other_kind 63 41 l (λ q. absurd (omega (arith, q))) h);
        matched = c.matched;
        joined = texts_more c.says said.instruction ∙ c.joined;
        within = c.within;
        rooted = plain_kind 63 h (λ q. absurd (omega (arith, q))) ∙ c.rooted;
        outside = c.outside;
        deep = c.deep;
      }) (untagged front l n40 n65)

  none_inside : {o : Open} {os : List Open} {w : List ℕ} → o ∷ os ≡ [] → w ≡ []
  none_inside e = absurd cc

  pub after_text : {o : Open} {os : List Open} {w v : List ℕ} {n : ℕ} {root : Bool} → Content front (o ∷ os) w n root → IsGoodLine l (said.text v)
      → length w + length v ≤ text_limit → Place after (inside (o ∷ os) (w ++ v) (n + 1) root)
  after_text {w = w} {v = v} c g few =
      let h = good_kind g in
      let n40 : HasKind 40 l → ⊥ = other_kind 45 40 l (λ q. absurd (omega (arith, q))) h in
      let n65 : HasKind 65 l → ⊥ = other_kind 45 65 l (λ q. absurd (omega (arith, q))) h in
      at_content (record {
        says = c.says ++ said.text v ∷ [];
        good = good_line_more c.good g;
        count = after_length _ c.count;
        tags = c.tags;
        are_open = open_other l c.are_open n40 n65 (other_kind 45 41 l (λ q. absurd (omega (arith, q))) h);
        matched = c.matched;
        joined = texts_more c.says (said.text v) ∙ ap (λ (x : List ℕ). x ++ v) c.joined;
        within = omega (arith, few, length-append w v);
        rooted = plain_kind 45 h (λ q. absurd (omega (arith, q))) ∙ c.rooted;
        outside = none_inside;
        deep = c.deep;
      }) (untagged front l n40 n65)

  closed_by : {o : Open} {os : List Open} {tags : List model.Tag} → AreOpenTags front tags → AreMatched tags (o ∷ os) → HasKind 41 l
      → (outer : List model.Tag) × AreOpenTags after outer × AreMatched outer os
  closed_by d (one_matched {tags = outer} s p n m) h = (outer, open_end l d h, m)

  pub after_end : {o : Open} {os : List Open} {w : List ℕ} {n : ℕ} {root : Bool} {name : QName} → Content front (o ∷ os) w n root
      → IsGoodLine l (said.end name) → Place after (inside os [] (n + 1) root)
  after_end {name = name} c g =
      let h = good_kind g in
      let k = closed_by c.are_open c.matched h in
      at_content (record {
        says = c.says ++ said.end name ∷ [];
        good = good_line_more c.good g;
        count = after_length _ c.count;
        tags = k.0;
        are_open = k.1;
        matched = k.2;
        joined = texts_more c.says (said.end name);
        within = omega arith;
        rooted = plain_kind 41 h (λ q. absurd (omega (arith, q))) ∙ c.rooted;
        outside = λ e. refl;
        deep = omega (arith, c.deep);
      }) (untagged front l (other_kind 41 40 l (λ q. absurd (omega (arith, q))) h) (other_kind 41 65 l (λ q. absurd (omega (arith, q))) h))

  pub after_start : {os : List Open} {w : List ℕ} {n b : ℕ} {root : Bool} {name : QName} → Content front os w n root
      → IsGoodLine l (said.start name) → length os < open_limit → b ≡ length l.bytes → Place after (in_tag os (begun b name) (n + 1))
  after_start {name = name} c g h40 size =
      let h = good_kind g in
      at_tag (record {
        says = c.says ++ said.start name ∷ [];
        good = good_line_more c.good g;
        count = after_length _ c.count;
        ends = tag_begins front l h;
        tags = c.tags;
        are_open = c.are_open;
        matched = c.matched;
        written = [];
        says_tag = record { first = g; said = []; attributes = no_lines; are_written = none_written };
        split = split.no_lines;
        joined = texts_more c.says (said.start name);
        few = omega arith;
        deep = h40;
        bytes = size ∙ omega arith;
        rooted = root_in front l [] h;
      })

  attribute_bytes : (b : ℕ) (a : WrittenAttribute) (t : Tag) → (with_attribute b a t).bytes ≡ t.bytes + b
  attribute_bytes b a t = go (is_some (declared_by a.name)) where
    go : (x : Bool) → (cond x (record t { declared = t.declared ++ a ∷ []; bytes = t.bytes + b })
        (record t { others = t.others ++ a ∷ []; bytes = t.bytes + b })).bytes ≡ t.bytes + b
    go true = refl
    go false = refl

  written_more : {xs : List Said} {ws : List WrittenAttribute} (a : QName) (v : List ℕ) → AreWritten xs ws
      → AreWritten (xs ++ said.attribute a v ∷ []) (ws ++ record { name = a; content = v } ∷ [])
  written_more a v none_written = written_and none_written
  written_more a v (written_and d) = written_and (written_more a v d)

  pub after_attribute : {os : List Open} {t : Tag} {n : ℕ} (b : ℕ) (a : QName) (v : List ℕ) → Within front os t n → IsGoodLine l (said.attribute a v)
      → length t.declared + length t.others < attribute_limit → b ≡ length l.bytes
      → Place after (in_tag os (with_attribute b (record { name = a; content = v }) t) (n + 1))
  after_attribute {t = t} b a v c g room size =
      let h = good_kind g in
      let w : WrittenAttribute = record { name = a; content = v } in
      let k = attribute_longer c.written w t b c.split in
      at_tag (record {
        says = c.says ++ said.attribute a v ∷ [];
        good = good_line_more c.good g;
        count = after_length _ c.count;
        ends = tag_grows c.ends l h;
        tags = c.tags;
        are_open = c.are_open;
        matched = c.matched;
        written = c.written ++ w ∷ [];
        says_tag = record {
          first = subst (λ (x : QName). IsGoodLine c.ends.tag (said.start x)) (sym k.name) c.says_tag.first;
          said = c.says_tag.said ++ said.attribute a v ∷ [];
          attributes = good_line_more c.says_tag.attributes g;
          are_written = written_more a v c.says_tag.are_written;
        };
        split = k.split;
        joined = texts_more c.says (said.attribute a v);
        few = omega (arith, room, split_length c.split, length-append c.written (w ∷ []));
        deep = c.deep;
        bytes = attribute_bytes b w t ∙ omega (arith, size, c.bytes, sum_by_push (λ l. length l.bytes) c.ends.others l);
        rooted = plain_kind 65 h (λ q. absurd (omega (arith, q))) ∙ c.rooted;
      })

-- a tag that breaks nothing is closed
pub closed : {front : List Line} {os : List Open} {t : Tag} {n : ℕ} (e : Element) → Within front os t n
    → tag_read (declared_in os) t.name t.declared t.others ≡ Ok e → Content front (open_of t ∷ os) [] n true
closed {front} {os} {t} {n} e c q = record {
  says = c.says;
  good = c.good;
  count = c.count;
  tags = record { first = c.ends.tag; attributes = c.ends.others } ∷ c.tags;
  are_open = open_tag c.ends c.are_open;
  matched = one_matched c.says_tag c.split (record { once = once; few = c.few }) c.matched;
  joined = c.joined;
  within = omega arith;
  rooted = c.rooted;
  outside = λ e. refl;
  deep = omega (arith, c.deep);
} where
  once : HasTwice (prefixes_of (map declaration_of t.declared)) → ⊥
  once = read_once (declared_in os) t.name c.written t.declared t.others c.split e
      (subst (TagTells (declared_in os) t.name c.written t.declared t.others) q
      (tag_tells (declared_in os) t.name c.written t.declared t.others c.split (matched_declared c.matched)))
