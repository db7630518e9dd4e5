-- Corresponding trees: they differ only in their leaves, which are paired.
use Rattle.std.proofs.Common.{List, ℕ}
use Rattle.rng_model.specs.names.Names.{NameClass}
use Rattle.rng_model.specs.simple.Tree.{Datatype, Connector, choice, group, interleave, Tree, not_allowed, empty, text, leaf, attribute, list, data_of}
use Rattle.rng_model.specs.simple.Tree.{data_except}
use Rattle.rng_model.specs.simple.Tree.{value, mixed, optional, zero_or_more, one_or_more, joined, Trees, no_trees, tree_and}
use Rattle.rng_model.specs.datatypes.Texts.{Texts}
use Rattle.rng_model.specs.matching.Matching.{Lex, LexOne, LexAll}
use Rattle.rng_model.specs.simple.Leaves.{renamed, all_renamed, LeafIn, LeafAmong}
use Rattle.rng_model.specs.simple.Leaves as f
use Rattle.rng_simple.proofs.Matching.StepLex.{repeats}
use Rattle.rng_simple.proofs.Matching.NestedNames.{either}

mutual
  pub data Corresponds {K L : Type 0} (R : K → L → Type 0) : Tree K → Tree L → Type 0 where
    not_alloweds : Corresponds R not_allowed not_allowed
    empties : Corresponds R empty empty
    both_text : Corresponds R text text
    leaves : {k : K} {l : L} → R k l → Corresponds R (leaf k) (leaf l)
    attributes : {c : NameClass} {a : Tree K} {b : Tree L} → Corresponds R a b → Corresponds R (attribute c a) (attribute c b)
    lists : {a : Tree K} {b : Tree L} → Corresponds R a b → Corresponds R (list a) (list b)
    datas : {d : Datatype} → Corresponds R (data_of d) (data_of d)
    excepts : {d : Datatype} {a : Tree K} {b : Tree L} → Corresponds R a b → Corresponds R (data_except d a) (data_except d b)
    values : {d : Datatype} {v : List ℕ} → Corresponds R (value d v) (value d v)
    mixeds : {a : Tree K} {b : Tree L} → Corresponds R a b → Corresponds R (mixed a) (mixed b)
    optionals : {a : Tree K} {b : Tree L} → Corresponds R a b → Corresponds R (optional a) (optional b)
    any_times : {a : Tree K} {b : Tree L} → Corresponds R a b → Corresponds R (zero_or_more a) (zero_or_more b)
    some_times : {a : Tree K} {b : Tree L} → Corresponds R a b → Corresponds R (one_or_more a) (one_or_more b)
    both_joined : {k : Connector} {a c : Tree K} {b d : Tree L} {ts : Trees K} {us : Trees L} → Corresponds R a b → Corresponds R c d → AllCorrespond R ts us
        → Corresponds R (joined k a c ts) (joined k b d us)

  pub data AllCorrespond {K L : Type 0} (R : K → L → Type 0) : Trees K → Trees L → Type 0 where
    no_more : AllCorrespond R no_trees no_trees
    and_more : {a : Tree K} {b : Tree L} {ts : Trees K} {us : Trees L} → Corresponds R a b → AllCorrespond R ts us
        → AllCorrespond R (tree_and a ts) (tree_and b us)

-- a tree corresponds to itself
module _ {L : Type 0} (R : L → L → Type 0) (same : (l : L) → R l l) where
  mutual
    pub corresponds_itself : (a : Tree L) → Corresponds R a a
    corresponds_itself not_allowed = not_alloweds
    corresponds_itself empty = empties
    corresponds_itself text = both_text
    corresponds_itself (leaf l) = leaves (same l)
    corresponds_itself (attribute c a) = attributes (corresponds_itself a)
    corresponds_itself (list a) = lists (corresponds_itself a)
    corresponds_itself (data_of d) = datas
    corresponds_itself (data_except d a) = excepts (corresponds_itself a)
    corresponds_itself (value d v) = values
    corresponds_itself (mixed a) = mixeds (corresponds_itself a)
    corresponds_itself (optional a) = optionals (corresponds_itself a)
    corresponds_itself (zero_or_more a) = any_times (corresponds_itself a)
    corresponds_itself (one_or_more a) = some_times (corresponds_itself a)
    corresponds_itself (joined k a b ts) = both_joined (corresponds_itself a) (corresponds_itself b) (all_correspond_itself ts)

    all_correspond_itself : (ts : Trees L) → AllCorrespond R ts ts
    all_correspond_itself no_trees = no_more
    all_correspond_itself (tree_and a ts) = and_more (corresponds_itself a) (all_correspond_itself ts)

-- a tree corresponds to itself with renamed leaves
module _ {K L : Type 0} (R : K → L → Type 0) (g : K → L) where
  mutual
    pub corresponds_renamed : (a : Tree K) → ((k : K) → LeafIn k a → R k (g k)) → Corresponds R a (renamed g a)
    corresponds_renamed not_allowed n = not_alloweds
    corresponds_renamed empty n = empties
    corresponds_renamed text n = both_text
    corresponds_renamed (leaf l) n = leaves (n l f.here)
    corresponds_renamed (attribute c a) n = attributes (corresponds_renamed a (λ k i. n k (f.of_attribute i)))
    corresponds_renamed (list a) n = lists (corresponds_renamed a (λ k i. n k (f.of_list i)))
    corresponds_renamed (data_of d) n = datas
    corresponds_renamed (data_except d a) n = excepts (corresponds_renamed a (λ k i. n k (f.of_except i)))
    corresponds_renamed (value d v) n = values
    corresponds_renamed (mixed a) n = mixeds (corresponds_renamed a (λ k i. n k (f.of_mixed i)))
    corresponds_renamed (optional a) n = optionals (corresponds_renamed a (λ k i. n k (f.of_optional i)))
    corresponds_renamed (zero_or_more a) n = any_times (corresponds_renamed a (λ k i. n k (f.of_zero_or_more i)))
    corresponds_renamed (one_or_more a) n = some_times (corresponds_renamed a (λ k i. n k (f.of_one_or_more i)))
    corresponds_renamed (joined k a b ts) n =
        both_joined (corresponds_renamed a (λ k i. n k (f.of_first i))) (corresponds_renamed b (λ k i. n k (f.of_second i)))
        (all_correspond_renamed ts (λ k i. n k (f.of_others i)))

    all_correspond_renamed : (ts : Trees K) → ((k : K) → LeafAmong k ts → R k (g k)) → AllCorrespond R ts (all_renamed g ts)
    all_correspond_renamed no_trees n = no_more
    all_correspond_renamed (tree_and a ts) n =
        and_more (corresponds_renamed a (λ k i. n k (f.in_this i))) (all_correspond_renamed ts (λ k i. n k (f.in_later i)))

-- in the other direction
module _ {K L : Type 0} (R : K → L → Type 0) where
  mutual
    pub turned : {a : Tree K} {b : Tree L} → Corresponds R a b → Corresponds (λ l k. R k l) b a
    turned not_alloweds = not_alloweds
    turned empties = empties
    turned both_text = both_text
    turned (leaves r) = leaves r
    turned (attributes d) = attributes (turned d)
    turned (lists d) = lists (turned d)
    turned datas = datas
    turned (excepts d) = excepts (turned d)
    turned values = values
    turned (mixeds d) = mixeds (turned d)
    turned (optionals d) = optionals (turned d)
    turned (any_times d) = any_times (turned d)
    turned (some_times d) = some_times (turned d)
    turned (both_joined d e es) = both_joined (turned d) (turned e) (all_turned es)

    all_turned : {ts : Trees K} {us : Trees L} → AllCorrespond R ts us → AllCorrespond (λ l k. R k l) us ts
    all_turned no_more = no_more
    all_turned (and_more d es) = and_more (turned d) (all_turned es)

-- corresponding trees have the same lists of texts
module _ {K L : Type 0} (R : K → L → Type 0) (texts : Texts) where
  mutual
    pub lex_across : {a : Tree K} {b : Tree L} → Corresponds R a b → (ws : List (List ℕ)) → Lex texts a ws → Lex texts b ws
    lex_across not_alloweds ws h = h
    lex_across empties ws h = h
    lex_across both_text ws h = h
    lex_across (leaves r) ws h = h
    lex_across (attributes d) ws h = h
    lex_across (lists d) ws h = (h.0, h.1, lex_across d _ h.2)
    lex_across datas ws h = h
    lex_across (excepts d) ws h = (h.0, h.1, h.2, λ z. h.3 (lex_back d _ z))
    lex_across values ws h = h
    lex_across (mixeds d) ws h = (h.0, h.1, lex_across d _ h.2, h.3)
    lex_across (optionals d) ws h = either (λ e. e) (lex_across d ws) h
    lex_across (any_times {a} {b} d) ws h = either (λ e. e) (λ r. repeats (λ us. Lex texts a us) (λ us. Lex texts b us) (lex_across d) r) h
    lex_across (some_times {a} {b} d) ws h = repeats (λ us. Lex texts a us) (λ us. Lex texts b us) (lex_across d) h
    lex_across (both_joined {k = choice} d e es) ws h = either (lex_across d ws) (λ i. either (lex_across e ws) (one_across es ws) i) h
    lex_across (both_joined {k = group} d e es) ws h =
        (h.0, h.1, lex_across d _ h.2, (h.3.0, h.3.1, lex_across e _ h.3.2, all_across es group _ h.3.3, h.3.4), h.4)
    lex_across (both_joined {k = interleave} d e es) ws h =
        (h.0, h.1, lex_across d _ h.2, (h.3.0, h.3.1, lex_across e _ h.3.2, all_across es interleave _ h.3.3, h.3.4), h.4)

    one_across : {ts : Trees K} {us : Trees L} → AllCorrespond R ts us → (ws : List (List ℕ)) → LexOne texts ts ws → LexOne texts us ws
    one_across no_more ws h = h
    one_across (and_more d es) ws h = either (lex_across d ws) (one_across es ws) h

    all_across : {ts : Trees K} {us : Trees L} → AllCorrespond R ts us → (k : Connector) (ws : List (List ℕ)) → LexAll texts k ts ws → LexAll texts k us ws
    all_across no_more k ws h = h
    all_across (and_more d es) k ws h = (h.0, h.1, lex_across d _ h.2, all_across es k _ h.3, h.4)

    pub lex_back : {a : Tree K} {b : Tree L} → Corresponds R a b → (ws : List (List ℕ)) → Lex texts b ws → Lex texts a ws
    lex_back not_alloweds ws h = h
    lex_back empties ws h = h
    lex_back both_text ws h = h
    lex_back (leaves r) ws h = h
    lex_back (attributes d) ws h = h
    lex_back (lists d) ws h = (h.0, h.1, lex_back d _ h.2)
    lex_back datas ws h = h
    lex_back (excepts d) ws h = (h.0, h.1, h.2, λ z. h.3 (lex_across d _ z))
    lex_back values ws h = h
    lex_back (mixeds d) ws h = (h.0, h.1, lex_back d _ h.2, h.3)
    lex_back (optionals d) ws h = either (λ e. e) (lex_back d ws) h
    lex_back (any_times {a} {b} d) ws h = either (λ e. e) (λ r. repeats (λ us. Lex texts b us) (λ us. Lex texts a us) (lex_back d) r) h
    lex_back (some_times {a} {b} d) ws h = repeats (λ us. Lex texts b us) (λ us. Lex texts a us) (lex_back d) h
    lex_back (both_joined {k = choice} d e es) ws h = either (lex_back d ws) (λ i. either (lex_back e ws) (one_back es ws) i) h
    lex_back (both_joined {k = group} d e es) ws h = (h.0, h.1, lex_back d _ h.2, (h.3.0, h.3.1, lex_back e _ h.3.2, all_back es group _ h.3.3, h.3.4), h.4)
    lex_back (both_joined {k = interleave} d e es) ws h =
        (h.0, h.1, lex_back d _ h.2, (h.3.0, h.3.1, lex_back e _ h.3.2, all_back es interleave _ h.3.3, h.3.4), h.4)

    one_back : {ts : Trees K} {us : Trees L} → AllCorrespond R ts us → (ws : List (List ℕ)) → LexOne texts us ws → LexOne texts ts ws
    one_back no_more ws h = h
    one_back (and_more d es) ws h = either (lex_back d ws) (one_back es ws) h

    all_back : {ts : Trees K} {us : Trees L} → AllCorrespond R ts us → (k : Connector) (ws : List (List ℕ)) → LexAll texts k us ws → LexAll texts k ts ws
    all_back no_more k ws h = h
    all_back (and_more d es) k ws h = (h.0, h.1, lex_back d _ h.2, all_back es k _ h.3, h.4)
