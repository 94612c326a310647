mod Names
mod ReportLemmas
