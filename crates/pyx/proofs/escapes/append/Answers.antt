use Rattle.std.proofs.Common.{◌∙◌, sym, rules, refl}
use Rattle.pyx.proofs.Lines.ReplacedEscapes.{unescape_step, unescape_stuck, unescape_shortens, unescape_ends, escape_small}
use Rattle.pyx.proofs.escapes.append.Goals as goal

pub returns-then-literal : goal.returns-then-literal
returns-then-literal c = rw (c.in_ok-push_str.ensures.bytes, unescape_ends _ _ (sym (c.requires c.if-literal.true))) refl

pub returns-in_default-escape : goal.returns-in_default-escape
returns-in_default-escape c = rw (c.escapes.invariant.so_far, unescape_stuck _ _ _ c.in-Some.ensures c.in_default-escape.ensures) refl

pub escapes-smaller : goal.escapes-smaller
escapes-smaller c = unescape_shortens _ _ _ _ _ c.in-Some.ensures c.in-Some-escape.ensures

pub escapes-preserved : goal.escapes-preserved
escapes-preserved c = record {
  utf8 = search rules;
  so_far = rw (
    c.in_ok-push.ensures.bytes,
    c.in_ok-push_str-2.ensures.bytes,
    c.in_ok-push.ensures.ascii (escape_small c.in-Some.after.now c.in-Some-escape.character c.in-Some-escape.after.now (sym c.in-Some-escape.ensures)).0,
  )
      (c.escapes.invariant.so_far ∙ unescape_step _ _ _ _ _ _ c.in-Some.ensures c.in-Some-escape.ensures);
}

pub returns : goal.returns
returns c = rw (c.in_ok-push_str-3.ensures.bytes, c.escapes.invariant.so_far, unescape_ends _ _ c.in_default.ensures) refl
