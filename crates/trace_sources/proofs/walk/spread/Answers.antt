-- `trace_sources::walk::spread` meets its contract, kind by kind. Assumes nothing.
use mathlib.Core.Path.{refl}
use Rattle.trace.specs.Sources.{spread}
use Rattle.trace_sources.specs.Loops.{sources_of}
use Rattle.trace_sources.proofs.Walking.{spread_as, spread_replaced}
use Rattle.trace_sources.proofs.walk.spread.Goals as goal

pub returns-in-Patch : goal.returns-in-Patch
unfolding spread
returns-in-Patch c =
    let a = c.args in
    spread_as a.plan a.indices.now (sources_of a.area.now) (sources_of c.patch.new.area) c.in-Patch.is (λ t b i. c.patch.ensures b i t)

pub returns-in-Gain : goal.returns-in-Gain
returns-in-Gain c =
    let a = c.args in
    spread_replaced a.plan a.indices.now (sources_of a.area.now) (sources_of c.replace.new.area) c.in-Gain.src c.in-Gain.dst c.in-Gain.is c.replace.ensures

pub returns-in-Clear : goal.returns-in-Clear
unfolding spread
returns-in-Clear c =
    let a = c.args in
    spread_as a.plan a.indices.now (sources_of a.area.now) (sources_of c.clear.new.area) c.in-Clear.is c.clear.ensures

pub returns-in-Send : goal.returns-in-Send
unfolding spread
returns-in-Send c =
    let a = c.args in
    spread_as a.plan a.indices.now (sources_of a.area.now) (sources_of c.send.new.area) c.in-Send.is c.send.ensures

pub returns-in-Output : goal.returns-in-Output
unfolding spread
returns-in-Output c =
    let a = c.args in
    spread_as a.plan a.indices.now (sources_of a.area.now) (sources_of a.area.now) c.in-Output.is refl
