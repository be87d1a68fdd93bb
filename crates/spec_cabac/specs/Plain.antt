-- What the plain program's engine stands for.
use Rattle.spec_cabac.specs.declared.plain.PlainEngine.{PlainEngine}
use Rattle.spec_cabac.specs.Engine.{Engine}

-- the engine that one of the plain program stands for
abbrev pub engine_of : PlainEngine → Engine
engine_of e = record { range = e.range; offset = e.offset; bits = e.bits.now; at = e.at }
