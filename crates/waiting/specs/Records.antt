-- The record that stands where no part waits.
use Rattle.waiting.specs.declared.Part.{Part}

abbrev pub none : Part
none = record { first = 0; slicing = 0 }
