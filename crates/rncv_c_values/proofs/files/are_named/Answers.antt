use Rattle.std.proofs.Common.{◌≡◌, ◌<◌, ◌≤◌, ◌==◌, IsTrue, ℕ, IsUtf8, length, take, List, arith, Bool, not, sym}
use Rattle.std.proofs.lemmas.List.{take_all}
use Rattle.std.proofs.lemmas.List.Elements.{All-more, All-same}
use Rattle.rncv_c_values.specs.declared.files.SchemaFile.{SchemaFile}
use Rattle.rncv_c_values.proofs.files.are_named.Goals as goal

pub loop-file-preserved : goal.loop-file-preserved
loop-file-preserved c = All-more (λ f. IsUtf8 f.name.now) _ _ _ c.loop-file-test.true c.loop-file.invariant c.in-Ok.ensures.cases.1

-- taking as many elements as there are, or more, changes nothing
take_whole : (files : List SchemaFile) (n : ℕ) → length files ≤ n → files ≡ take n files
take_whole files n all = sym (take_all n files all)

-- a list has an element exactly if it is not empty
some_from_test : (n : ℕ) (b : Bool) → b ≡ (n == 0) → IsTrue (not b) → 0 < n
some_from_test n b e t = grind arith

test_from_some : (n : ℕ) (b : Bool) → b ≡ (n == 0) → 0 < n → IsTrue (not b)
test_from_some n b e t = grind arith

pub returns : goal.returns
returns c = (
  λ t. record {
    some = some_from_test _ _ c.is_empty.ensures t;
    texts = All-same (λ f. IsUtf8 f.name.now) _ _ (take_whole _ _ c.loop-file-test.false) c.loop-file.invariant;
  },
  λ named. test_from_some _ _ c.is_empty.ensures named.some,
)
