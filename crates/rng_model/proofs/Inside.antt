-- Patterns inside a pattern: steps into it and out of it.
use Rattle.std.proofs.Common.{◌≡◌, ◌⊎◌, inl, inr, refl}
use Rattle.rng_model.specs.names.Names.{NameClass}
use Rattle.rng_model.specs.simple.Tree as tree
use Rattle.rng_model.specs.simple.Tree.{Connector, Simple, s_attribute, s_list, s_data_except, s_one_or_more, s_joined}
use Rattle.rng_model.specs.simple.Grammar.{Kind, kind_of, kind_between, IsTransparent, IsChild, Through, StandsIn, Inside, StandsUnrepeated, OccursIn, itself}
use Rattle.rng_model.specs.simple.Grammar.{below, of_attribute, of_list, of_except, of_one_or_more, of_left, of_right, choice_is, group_is, interleave_is}
use Rattle.rng_model.specs.simple.Grammar.{one_or_more_is, one_or_more_kind}

between_is_transparent : (k : Connector) → IsTransparent (kind_between k)
between_is_transparent tree.choice = choice_is
between_is_transparent tree.group = group_is
between_is_transparent tree.interleave = interleave_is

between_is_not_repeated : (k : Connector) → kind_between k ≡ one_or_more_kind → ⊥
between_is_not_repeated tree.choice e = cc
between_is_not_repeated tree.group e = cc
between_is_not_repeated tree.interleave e = cc

module _ {L : Type 0} where
  -- ---- any relation of this kind

  -- the way to r goes on to q
  pub deeper : {IsSuch : Kind → Type 0} {q r p : Simple L} → Through IsSuch r p → Through IsSuch q r → Through IsSuch q p
  deeper itself w = w
  deeper (below such child v) w = below such child (deeper v w)

  pub stands_through : {IsSuch : Kind → Type 0} {q p : Simple L} → Through IsSuch q p → StandsIn q p
  stands_through itself = itself
  stands_through (below such child w) = below tt child (stands_through w)

  -- through a child
  abbrev pub ThroughChild : (Kind → Type 0) → Simple L → Simple L → Type 0
  ThroughChild IsSuch q p = (r : Simple L) × IsChild r p × Through IsSuch q r

  pub through_cases : {IsSuch : Kind → Type 0} {q p : Simple L} → Through IsSuch q p → (q ≡ p) ⊎ (IsSuch (kind_of p) × ThroughChild IsSuch q p)
  through_cases itself = inl refl
  through_cases (below {r = r} such child w) = inr (such, (r, child, w))

  pub stands_cases : {q p : Simple L} → StandsIn q p → (q ≡ p) ⊎ Inside q p
  stands_cases itself = inl refl
  stands_cases (below {r = r} such child w) = inr (r, child, w)

  -- ---- out of a pattern

  pub out_of_attribute : {IsSuch : Kind → Type 0} {c : NameClass} {q p : Simple L} → ThroughChild IsSuch q (s_attribute c p) → Through IsSuch q p
  out_of_attribute (_, of_attribute, w) = w

  pub out_of_list : {IsSuch : Kind → Type 0} {q p : Simple L} → ThroughChild IsSuch q (s_list p) → Through IsSuch q p
  out_of_list (_, of_list, w) = w

  pub out_of_except : {IsSuch : Kind → Type 0} {d : tree.Datatype} {q p : Simple L} → ThroughChild IsSuch q (s_data_except d p) → Through IsSuch q p
  out_of_except (_, of_except, w) = w

  pub out_of_one_or_more : {IsSuch : Kind → Type 0} {q p : Simple L} → ThroughChild IsSuch q (s_one_or_more p) → Through IsSuch q p
  out_of_one_or_more (_, of_one_or_more, w) = w

  pub out_of_joined : {IsSuch : Kind → Type 0} {k : Connector} {q p r : Simple L} → ThroughChild IsSuch q (s_joined k p r)
      → Through IsSuch q p ⊎ Through IsSuch q r
  out_of_joined (_, of_left, w) = inl w
  out_of_joined (_, of_right, w) = inr w

  -- ---- into a pattern

  pub in_attribute : {c : NameClass} {q p : Simple L} → StandsIn q p → StandsIn q (s_attribute c p)
  in_attribute w = below tt of_attribute w

  pub in_list : {q p : Simple L} → StandsIn q p → StandsIn q (s_list p)
  in_list w = below tt of_list w

  pub in_except : {d : tree.Datatype} {q p : Simple L} → StandsIn q p → StandsIn q (s_data_except d p)
  in_except w = below tt of_except w

  pub in_one_or_more : {q p : Simple L} → StandsIn q p → StandsIn q (s_one_or_more p)
  in_one_or_more w = below tt of_one_or_more w

  pub in_left : {k : Connector} {q p r : Simple L} → StandsIn q p → StandsIn q (s_joined k p r)
  in_left w = below tt of_left w

  pub in_right : {k : Connector} {q p r : Simple L} → StandsIn q r → StandsIn q (s_joined k p r)
  in_right w = below tt of_right w

  pub inside_list : {q p : Simple L} → StandsIn q p → Inside q (s_list p)
  inside_list {p = p} w = (p, of_list, w)

  pub inside_except : {d : tree.Datatype} {q p : Simple L} → StandsIn q p → Inside q (s_data_except d p)
  inside_except {p = p} w = (p, of_except, w)

  pub inside_one_or_more : {q p : Simple L} → StandsIn q p → Inside q (s_one_or_more p)
  inside_one_or_more {p = p} w = (p, of_one_or_more, w)

  pub inside_left : {k : Connector} {q p r : Simple L} → StandsIn q p → Inside q (s_joined k p r)
  inside_left {p = p} w = (p, of_left, w)

  pub inside_right : {k : Connector} {q p r : Simple L} → StandsIn q r → Inside q (s_joined k p r)
  inside_right {r = r} w = (r, of_right, w)

  pub occurs_repeated : {q p : Simple L} → OccursIn q p → OccursIn q (s_one_or_more p)
  occurs_repeated w = below one_or_more_is of_one_or_more w

  pub occurs_left : {k : Connector} {q p r : Simple L} → OccursIn q p → OccursIn q (s_joined k p r)
  occurs_left {k = k} w = below (between_is_transparent k) of_left w

  pub occurs_right : {k : Connector} {q p r : Simple L} → OccursIn q r → OccursIn q (s_joined k p r)
  occurs_right {k = k} w = below (between_is_transparent k) of_right w

  pub unrepeated_in_attribute : {c : NameClass} {q p : Simple L} → StandsUnrepeated q p → StandsUnrepeated q (s_attribute c p)
  unrepeated_in_attribute w = below (λ e. cc) of_attribute w

  pub unrepeated_in_list : {q p : Simple L} → StandsUnrepeated q p → StandsUnrepeated q (s_list p)
  unrepeated_in_list w = below (λ e. cc) of_list w

  pub unrepeated_in_except : {d : tree.Datatype} {q p : Simple L} → StandsUnrepeated q p → StandsUnrepeated q (s_data_except d p)
  unrepeated_in_except w = below (λ e. cc) of_except w

  pub unrepeated_in_left : {k : Connector} {q p r : Simple L} → StandsUnrepeated q p → StandsUnrepeated q (s_joined k p r)
  unrepeated_in_left {k = k} w = below (between_is_not_repeated k) of_left w

  pub unrepeated_in_right : {k : Connector} {q p r : Simple L} → StandsUnrepeated q r → StandsUnrepeated q (s_joined k p r)
  unrepeated_in_right {k = k} w = below (between_is_not_repeated k) of_right w
