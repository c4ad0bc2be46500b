-- `calculation::written` meets its contract: a row of the table for each arm.
-- Assumes nothing.
use mathlib.Core.Path.{refl}
use Rattle.float.specs.declared.FloatOp.TheVariants.{Add, Sub, Mul, Div, Gt, Eq}
use Rattle.calculation.proofs.Writes.{given, turned, absent}
use Rattle.calculation.proofs.written.Goals as goal

pub returns-in-80 : goal.returns-in-80
returns-in-80 c = given Add c.in-80.is (λ n a b. refl) c.calculate.ensures

pub returns-in-81 : goal.returns-in-81
returns-in-81 c = given Sub c.in-81.is (λ n a b. refl) c.calculate-in-81.ensures

pub returns-in-82 : goal.returns-in-82
returns-in-82 c = given Mul c.in-82.is (λ n a b. refl) c.calculate-in-82.ensures

pub returns-in-83 : goal.returns-in-83
returns-in-83 c = given Div c.in-83.is (λ n a b. refl) c.calculate-in-83.ensures

pub returns-in-89 : goal.returns-in-89
returns-in-89 c = given Gt c.in-89.is (λ n a b. refl) c.calculate-in-89.ensures

pub returns-in-90 : goal.returns-in-90
returns-in-90 c = given Eq c.in-90.is (λ n a b. refl) c.calculate-in-90.ensures

pub returns-in-93 : goal.returns-in-93
returns-in-93 c = given Add c.in-93.is (λ n a b. refl) c.calculate-in-93.ensures

pub returns-in-94 : goal.returns-in-94
returns-in-94 c = given Sub c.in-94.is (λ n a b. refl) c.calculate-in-94.ensures

pub returns-in-95 : goal.returns-in-95
returns-in-95 c = given Mul c.in-95.is (λ n a b. refl) c.calculate-in-95.ensures

pub returns-in-96 : goal.returns-in-96
returns-in-96 c = given Div c.in-96.is (λ n a b. refl) c.calculate-in-96.ensures

pub returns-in-102 : goal.returns-in-102
returns-in-102 c = given Gt c.in-102.is (λ n a b. refl) c.calculate-in-102.ensures

pub returns-in-103 : goal.returns-in-103
returns-in-103 c = given Eq c.in-103.is (λ n a b. refl) c.calculate-in-103.ensures

pub returns-in-104 : goal.returns-in-104
returns-in-104 c = turned Gt c.in-104.is (λ n a b. refl) c.calculate-in-104.ensures

pub returns-in_default : goal.returns-in_default
returns-in_default c = absent Gt (c.in_default.in_default-own.rest) c.calculate-in_default.ensures
