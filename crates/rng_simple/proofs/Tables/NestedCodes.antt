-- Name classes that are equal once they are nested in twos, by their codes.
use Rattle.std.proofs.Common.{◌≡◌, refl, ap, sym, ◌∙◌, List, [], ◌∷◌}
use Rattle.rng_model.specs.names.Names.{NameClass, any_name, any_except, ns_name, ns_except, name_is, one_of, NameClasses, no_classes, class_and}
use Rattle.rng_simple.specs.plain.InTwos.{nested, nested_after}
use Rattle.rng_labels.specs.plain.LabelCodes.{Part, any_but, ns_but, either, class_code, more_code, IsInTwos}
use Rattle.rng_labels.proofs.LabelCodes as codes

mutual
  nested_is : (c : NameClass) → IsInTwos (nested c)
  nested_is any_name = tt
  nested_is (any_except c) = nested_is c
  nested_is (ns_name u) = tt
  nested_is (ns_except u c) = nested_is c
  nested_is (name_is n) = tt
  nested_is (one_of c d cs) = after_is cs (one_of (nested c) (nested d) no_classes) (nested_is c, nested_is d)

  after_is : (cs : NameClasses) (c : NameClass) → IsInTwos c → IsInTwos (nested_after c cs)
  after_is no_classes c h = h
  after_is (class_and d ds) c h = after_is ds (one_of c (nested d) no_classes) (h, nested_is d)

mutual
  unfolding class_code more_code

  code_nested : (c : NameClass) (rest : List Part) → class_code (nested c) rest ≡ class_code c rest
  code_nested any_name rest = refl
  code_nested (any_except c) rest = code_nested c (any_but ∷ rest)
  code_nested (ns_name u) rest = refl
  code_nested (ns_except u c) rest = code_nested c (ns_but u ∷ rest)
  code_nested (name_is n) rest = refl
  code_nested (one_of c d cs) rest =
      after_code cs (one_of (nested c) (nested d) no_classes) rest ∙ code_nested c (class_code (nested d) (either ∷ more_code cs rest))
      ∙ ap (class_code c) (code_nested d (either ∷ more_code cs rest))

  after_code : (cs : NameClasses) (c : NameClass) (rest : List Part) → class_code (nested_after c cs) rest ≡ class_code c (more_code cs rest)
  after_code no_classes c rest = refl
  after_code (class_and d ds) c rest = after_code ds (one_of c (nested d) no_classes) rest ∙ ap (class_code c) (code_nested d (either ∷ more_code ds rest))

-- classes have one code exactly if they are equal once they are nested
pub same_classes : (c d : NameClass) → class_code c [] ≡ class_code d [] → nested c ≡ nested d
same_classes c d e = codes.same_classes (nested c) (nested d) (nested_is c) (nested_is d) (code_nested c [] ∙ e ∙ sym (code_nested d []))

pub same_class_codes : (c d : NameClass) → nested c ≡ nested d → class_code c [] ≡ class_code d []
same_class_codes c d e = sym (code_nested c []) ∙ ap (λ x. class_code x []) e ∙ code_nested d []
