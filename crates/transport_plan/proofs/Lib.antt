pub mod SpanLemmas
pub mod PlanSpans
