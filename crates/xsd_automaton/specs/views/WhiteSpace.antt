-- Texts with their white space treated (XML Schema Part 2, Second Edition, section 4.3.6).
use Rattle.std.specs.Prelude.{ℕ, List}
use Rattle.rng_model.specs.datatypes.Texts.{collapse}
use Rattle.rng_model.specs.xsd.Names.{replaced}
use Rattle.rng_types.specs.plain.Runs.{from_run}
use Rattle.xsd_automaton.specs.declared.white_space.WhiteSpace.{WhiteSpace}
use Rattle.xsd_automaton.specs.declared.white_space.WhiteSpace.TheVariants as white_space

abbrev pub treated : WhiteSpace → List ℕ → List ℕ
treated white_space.Preserve s = s
treated white_space.Replace s = replaced s
treated white_space.Collapse s = collapse s

-- what the rest of a text still gives to the treated text
abbrev pub left_by : WhiteSpace → List ℕ → List ℕ
left_by white_space.Preserve s = s
left_by white_space.Replace s = replaced s
left_by white_space.Collapse s = from_run s
