-- Views of names and name classes of the code.
use Rattle.std.proofs.Common.{◌≡◌, ap, ◌∙◌, rules, Box, Global}
use Rattle.std.proofs.lemmas.Str.{IsUtf8-string_bytes}
use Rattle.rng_model.specs.names.Names.{name_is, any_except, ns_except, IsPairOfTexts}
use Rattle.rng_model.specs.names.NameViews.{class_of, name_of, namespace_bytes}
use Rattle.rng_model.specs.declared.name.NameClass.{NameClass, Name, AnyExcept, NsExcept, the_lemmas}
use Rattle.rng_model.specs.declared.namespace.Namespace.{Namespace}
use Rattle.rng_model.specs.declared.name.Name as declared
use Rattle.rng_model.proofs.NamespaceTexts.{IsUtf8-namespace_bytes}

-- the view of a plain name is a name
pub name_class_is : (class : NameClass) (n : declared.Name) → class ≡ Name n → class_of class ≡ name_is (name_of n)
name_class_is class n e = ap class_of e ∙ search (rules, the_lemmas)

-- the views of classes with an except
pub any_except_is : (class : NameClass) (except : Box NameClass Global) → class ≡ AnyExcept except → class_of class ≡ any_except (class_of except.value)
any_except_is class except e = ap class_of e ∙ search (rules, the_lemmas)

pub ns_except_is : (class : NameClass) (ns : Namespace) (except : Box NameClass Global) → class ≡ NsExcept ns except
    → class_of class ≡ ns_except (namespace_bytes ns) (class_of except.value)
ns_except_is class ns except e = ap class_of e ∙ search (rules, the_lemmas)

-- the parts of a name of the code are texts
pub are_texts : (n : declared.Name) → IsPairOfTexts (name_of n)
are_texts n = (IsUtf8-namespace_bytes n.ns, IsUtf8-string_bytes n.local)
