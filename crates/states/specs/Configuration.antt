-- A state as a value of fixed size.
use Rattle.std.specs.Prelude.{List, ℕ}
use Rattle.numbers.specs.Arrays.{array_of}
use Rattle.states.specs.declared.configuration.NetworkConfiguration.{NetworkConfiguration}

-- the state's bytes, and 00 beyond them
abbrev pub configuration_of : List ℕ → NetworkConfiguration
configuration_of s = record { switches = array_of 512 0 s }
