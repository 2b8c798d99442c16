-- A builder as the state that it represents.
use Rattle.xs_result.specs.declared.builder.Builder.{Builder}
use Rattle.xs_result.specs.Building.{State}

abbrev pub state : Builder → State
state b = record { closed = b.events.items; tag = b.tag; text = b.text; depth = b.depth }
