-- The marked cases hold of the definitions, by computation. Assumes nothing.
use mathlib.Core.Path.{refl}
use Rattle.opcodes.specs.Manual.{forms_of}
use Rattle.opcodes.specs.Encode.{takes, bytes_of, in_range, encode_of}
use Rattle.pen.specs.Pens.{sound, sound_over, of_both, begun, fits}
use Rattle.segment.specs.Segment.{widened, emit}
use Rattle.text_encoding.specs.Petscreen.{petscreen_of}
use Rattle.little.specs.Little.{number_at}
use Rattle.edges.specs.Edges as edges
use Rattle.soundness.specs.Sound as soundness
use Rattle.symbols.specs.Symbols as symbols
use Rattle.tape.specs.Kinds.{size_of, is_expression, is_name}
use Rattle.tape.specs.Record.{record_at}
use Rattle.form.specs.Form.{expression_fault, outside_fault, head_fault, range_fault, declares, body_fault, scope_fault, fault_of, has_expression, followed, scopes_after, after, step_of, read_from, form_of}
use Rattle.evaluator.specs.Expression.{flagged, inner_at, leaf, expression}
use Rattle.evaluator.specs.Evaluate.{from_scope, evaluate_of}
use Rattle.marked.specs.Marked.{MarkedCases}

pub marked_cases : MarkedCases
unfolding
    forms_of takes bytes_of in_range encode_of petscreen_of sound sound_over of_both begun fits widened emit
    number_at edges.has edges.chain_of edges.chain edges.parent_of edges.edges_in symbols.new soundness.all_fit soundness.all_below soundness.rooted
    soundness.sound_edges size_of is_expression is_name record_at expression_fault outside_fault head_fault range_fault declares body_fault scope_fault fault_of has_expression followed
    scopes_after after step_of read_from form_of flagged inner_at leaf expression from_scope evaluate_of
marked_cases = (refl, (refl, (refl, (refl, (refl, (refl, (refl, (refl, (refl, (refl, (refl, (refl, (refl, (refl, (refl, (refl, (refl, (refl, (refl, (refl, (refl, tt)))))))))))))))))))))
