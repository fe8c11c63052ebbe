-- Events in code, and those of the core machine.
use Rattle.asp_defs.specs.Machine.{Event as MachineEvent, Look, Add, Fork, End}
use Rattle.asp_core.specs.declared.event.Event.{Event}
use Rattle.asp_core.specs.declared.event.Event.TheVariants as events

abbrev pub event_of : Event → MachineEvent
event_of (events.Look number) = Look number
event_of (events.Add number entry) = Add number entry
event_of (events.Fork number) = Fork number
event_of (events.End number) = End number
