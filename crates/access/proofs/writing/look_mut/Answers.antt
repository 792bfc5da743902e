use Rattle.rules.proofs.Access.{look_within, part_lies}
use mathlib.Core.Path.{refl}
use native.Mathlib.Omega.{arith}
use Rattle.access.proofs.writing.look_mut.Goals as goal

pub offset_bounds-rows-span : goal.offset_bounds-rows-span
offset_bounds-rows-span c = let a = c.args in omega (arith, look_within a.links.now a.rows.now a.header a.key)

pub slice_bounds-rows-end : goal.slice_bounds-rows-end
slice_bounds-rows-end c = let a = c.args in omega (arith, look_within a.links.now a.rows.now a.header a.key)

pub returns : goal.returns
returns c = part_lies _ _ _ _ _ _ _ c.row_span-span.ensures.start c.row_span-span.ensures.end refl refl
