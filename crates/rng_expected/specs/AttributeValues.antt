-- What the value of an attribute may be, by the patterns in which the attribute may be (RELAX NG Specification, sections 6.2.7
-- and 6.2.8).
use Rattle.std.specs.Prelude.{ℕ, List, Contains}
use Rattle.rng_model.specs.names.Names.{In, Name, NameClass}
use Rattle.rng_model.specs.matching.GrammarMatching.{Reading}
use Rattle.rng_model.specs.simple.Tree.{Simple, s_attribute}
use Rattle.rng_deriv_laws.specs.plain.Taking.{Same}
use Rattle.rng_expected.specs.Expectations.{IsExpected, Next}
use Rattle.rng_expected.specs.Tags.{HasAttribute}

-- one of the patterns has an attribute with this content, whose class holds the name
abbrev pub IsContent : List (Simple ℕ) → Name → Simple ℕ → Type 0
IsContent ps q content = (p : Simple ℕ) × (c : NameClass) × Contains ps p × HasAttribute p (s_attribute c content) × In c q

-- the contents of the attributes that may have the name, or patterns that take the same
pub record AreContents (g : Reading) (ps : List (Simple ℕ)) (q : Name) (contents : List (Simple ℕ)) : Type 0 where
  pub each : (p : Simple ℕ) → Contains contents p → (content : Simple ℕ) × IsContent ps q content × Same g p content
  pub all : (content : Simple ℕ) → IsContent ps q content → (p : Simple ℕ) × Contains contents p × Same g p content

-- this is all that may come as the value of an attribute of this name
pub record IsExpectedValue (g : Reading) (ps : List (Simple ℕ)) (q : Name) (next : Next) : Type 0 where
  pub contents : List (Simple ℕ)
  pub are : AreContents g ps q contents
  pub is : IsExpected g.grammar contents next
