-- Two results of an exported call that both satisfy its contract are equal. A contract's right side has everything that the call answers and leaves, so that two equal
-- right sides are two equal results.
--     event_one_result, many_one_result, trace_one_result, join_one_result
-- Assumes nothing.
use mathlib.Core.Path.{◌≡◌, sym, ◌∙◌}
use Rattle.tables.specs.Event.{Called}
use Rattle.trace.specs.Traced.{Traced}
use Rattle.many.specs.Many.{ManyOn}
use Rattle.join.specs.Joined.{JoinedOn}
use Rattle.yuyarisun.specs.Exported.{Numbers, numbers}
use Rattle.yuyarisun.specs.Several.{ManyNumbers, many_numbers, TraceNumbers, trace_numbers}
use Rattle.yuyarisun.specs.Join.{JoinNumbers, join_numbers}

pub event_one_result : (given : Called) (x y : Numbers) → numbers given ≡ x → numbers given ≡ y → x ≡ y
event_one_result given x y first second = sym first ∙ second

pub many_one_result : (given : ManyOn) (x y : ManyNumbers) → many_numbers given ≡ x → many_numbers given ≡ y → x ≡ y
many_one_result given x y first second = sym first ∙ second

pub trace_one_result : (given : Traced) (x y : TraceNumbers) → trace_numbers given ≡ x → trace_numbers given ≡ y → x ≡ y
trace_one_result given x y first second = sym first ∙ second

pub join_one_result : (given : JoinedOn) (x y : JoinNumbers) → join_numbers given ≡ x → join_numbers given ≡ y → x ≡ y
join_one_result given x y first second = sym first ∙ second
