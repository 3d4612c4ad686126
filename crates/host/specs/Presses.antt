-- The press that a reading of the button yields; one press is like another.
use Rattle.host.specs.declared.button.Press.{Press}

abbrev pub a_press : Press
a_press = record { made = tt }
